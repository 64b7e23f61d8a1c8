-- The sessions before a break determine its rule, and whether it breaks the protocol or leaves the profile: for the law that a
-- text has one judgement.
use Rattle.osi_report.proofs.Vocabulary.{◌≡◌, ◌∙◌, sym, ℕ, zero, suc, ◌+◌, ◌<◌, ◌⊎◌, true, false, Bool, List, [], ◌∷◌, length, take}
use Rattle.osi_report.proofs.Vocabulary.{get_or, arith, Direction, Member, Break, BreaksWith, selection_of, IsExplained, leaves, begin_of}
use Rattle.osi_report.proofs.Vocabulary.{one_break}
use Rattle.osi_side.specs.Explaining.{Told}

not_both : (b : Bool) → b ≡ true → b ≡ false → ⊥
not_both b h k = cc

-- a list has one element at a place
pub one_element : (said : List Told) (i : ℕ) (x y : Told) → i < length said → x ≡ get_or said i x → y ≡ get_or said i y → x ≡ y
one_element [] i x y l e f = absurd (omega arith)
one_element (t ∷ said) zero x y l e f = e ∙ sym f
one_element (t ∷ said) (suc i) x y l e f = one_element said i x y (omega arith) e f

-- how a side left the profile
abbrev pub Leaves : Direction → List (List ℕ) → List Told → (i : ℕ) → Told → (members at : List Member) → Break → Type 0
Leaves d us said i x m at b =
    (BreaksWith us x.octets x.before m at b × (leaves us x.octets x.before b ≡ true) × (IsExplained (begin_of d) us (take (i + 1) said) → ⊥))
    ⊎ ((b ≡ selection_of x.before m) × IsExplained (begin_of d) us (take (i + 1) said))

pub left_same : (d : Direction) (us vs : List (List ℕ)) (said others : List Told) (i : ℕ) (x y : Told) (m n at o : List Member)
    (b e : Break)
    → said ≡ others → us ≡ vs → x ≡ y → m ≡ n → Leaves d us said i x m at b → Leaves d vs others i y n o e → b ≡ e
left_same d us vs said others i x y m n at o b e s u t p h h2 = grind (arith, one_break)

-- a side that broke the protocol did not leave the profile there
pub left_broken : (d : Direction) (us vs : List (List ℕ)) (said others : List Told) (i : ℕ) (x y : Told) (m n at o : List Member)
    (b e : Break)
    → said ≡ others → us ≡ vs → x ≡ y → m ≡ n → BreaksWith us x.octets x.before m at b → leaves us x.octets x.before b ≡ false
    → (IsExplained (begin_of d) us (take (i + 1) said) → ⊥) → Leaves d vs others i y n o e → ⊥
left_broken d us vs said others i x y m n at o b e s u t p h l z h2 = grind (arith, one_break, not_both)
