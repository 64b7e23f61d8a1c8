-- By the sessions that are kept of those that explain what was sent before it, a TSDU has one break, and it is found by the same
-- sessions: for the law that a text has one judgement.
use Rattle.osi_side.proofs.Vocabulary.{arith, ◌≡◌, ◌∙◌, sym, subst, ℕ, ◌⊎◌, inl, inr, false, List, [], ◌∷◌, Contents, Units, Member, Break}
use Rattle.osi_side.proofs.Vocabulary.{Leads, BreaksIn, BreaksWith, a_unit, break_of}
use Rattle.osi_side.specs.Members.{is_empty}

-- the break is at the first of these units, or some sessions send it
abbrev AtFirst : List (List ℕ) → (octets before : ℕ) → List Member → Contents → Units → List Member → Break → Type 0
AtFirst heard octets before members unit units at by =
    (at ≡ members) × (by ≡ break_of (a_unit unit octets) heard before members) × (Leads heard octets before members unit [] ⊎ (units ≡ []))

abbrev Later : List (List ℕ) → (octets before : ℕ) → List Member → Contents → Units → List Member → Break → Type 0
Later heard octets before members unit units at by =
    (next : List Member) × Leads heard octets before members unit next × (is_empty next ≡ false) × BreaksIn heard octets before next units
    at by

abbrev Broken : List (List ℕ) → (octets before : ℕ) → List Member → Units → List Member → Break → Type 0
Broken heard octets before members [] at by = ⊥
Broken heard octets before members (unit ∷ units) at by =
    AtFirst heard octets before members unit units at by ⊎ Later heard octets before members unit units at by

broken : (heard : List (List ℕ)) (octets before : ℕ) (members : List Member) (units : Units) (at : List Member) (by : Break)
    → BreaksIn heard octets before members units at by → Broken heard octets before members units at by
broken heard octets before members units h by h2 = grind arith

-- it is the last unit, and there is one more
none_left : (heard : List (List ℕ)) (octets before : ℕ) (members : List Member) (units : Units) (at : List Member) (by : Break) → units ≡ []
    → BreaksIn heard octets before members units at by → ⊥
none_left heard octets before members units at by e h = grind (arith, broken)

first_later : (heard : List (List ℕ)) (octets before : ℕ) (m : List Member) (unit : Contents) (units : Units) (at others : List Member)
    (b e : Break)
    → AtFirst heard octets before m unit units at b → Later heard octets before m unit units others e → ⊥
first_later heard octets before m unit units h others b e h2 h3 = grind (arith, none_left)

-- one break, found by the same sessions
abbrev pub AreOne : (at others : List Member) → Break → Break → Type 0
AreOne at others b e = (at ≡ others) × (b ≡ e)

one_in : (heard : List (List ℕ)) (octets before : ℕ) (m n : List Member) (units : Units) (at others : List Member) (b e : Break) → m ≡ n
    → Broken heard octets before m units at b → Broken heard octets before n units others e → AreOne at others b e
one_in heard octets before m n [] at others b e a h k = absurd h
one_in heard octets before m n (u ∷ us) at others b e a (inl (p, f, _)) (inl (q, g, _)) = grind arith
one_in heard octets before m n (u ∷ us) at others b e a (inl h) (inr k) =
    absurd (first_later heard octets before m u us at others b e h (grind arith))
one_in heard octets before m n (u ∷ us) at others b e a (inr h) (inl k) =
    absurd (first_later heard octets before n u us others at e b k (subst (λ (z : List Member). Later heard octets before z u us at b) a h))
one_in heard octets before m n (u ∷ us) at others b e a (inr (next, h, s, x)) (inr (after, k, t, y)) =
    let same : next ≡ after
    = h ∙ sym (subst (λ (z : List Member). Leads heard octets before z u after) (sym a) k) in
    one_in heard octets before next after us at others b e same
    (broken heard octets before next us at b x) (broken heard octets before after us others e y)

pub one_break : (heard : List (List ℕ)) (tsdu : List ℕ) (before : ℕ) (members at others : List Member) (b e : Break)
    → BreaksWith heard tsdu before members at b → BreaksWith heard tsdu before members others e → AreOne at others b e
one_break heard tsdu before members at others b e h k = grind (arith, one_in, broken)
