-- A session is sought among the last of a list, from the end on: for `members::is_among` and `members::add`.
use Rattle.osi_side.proofs.Vocabulary.{◌≡◌, ◌∙◌, refl, sym, ap, ℕ, suc, zero, ◌+◌, ◌-◌, ◌<◌, ◌≤◌, Bool, true, false, ◌||◌, List, [], ◌∷◌}
use Rattle.osi_side.proofs.Vocabulary.{◌++◌, length, drop, get_or, if◌then◌else◌, arith, Member, same_member, is_among}
use Rattle.osi_side.specs.Kept.{added}
use Rattle.osi_side.proofs.walked.sessions_after_a_unit.{drop_here}

-- it is not among the rest
pub not_here : (m o : Member) (members : List Member) (i at : ℕ) → i < length members → o ≡ get_or members i o → at ≡ i + 1
    → false ≡ same_member o m → is_among m (drop at members) ≡ false → is_among m (drop i members) ≡ false
not_here m o members i at l e a s h = grind (arith, drop_here)

among_more : (m : Member) (members : List Member) (i n : ℕ) → i ≤ n → is_among m (drop n members) ≡ true
    → is_among m (drop i members) ≡ true
among_more m [] zero zero l h = h
among_more m [] zero (suc n) l h = h
among_more m [] (suc i) zero l h = h
among_more m [] (suc i) (suc n) l h = h
among_more m (x ∷ members) zero zero l h = h
among_more m (x ∷ members) zero (suc n) l h = grind (arith, among_more m members zero n (omega arith) h)
among_more m (x ∷ members) (suc i) zero l h = absurd (omega arith)
among_more m (x ∷ members) (suc i) (suc n) l h = among_more m members i n (omega arith) h

pub here : (m o : Member) (members : List Member) (first i : ℕ) → i < length members → o ≡ get_or members i o → first ≤ i
    → true ≡ same_member o m → true ≡ is_among m (drop first members)
here m o members first i l e f s =
    sym (among_more m members first i f
    (ap (is_among m) (drop_here members i o l e) ∙ ap (λ (b : Bool). b || is_among m (drop (i + 1) members)) (sym s)))

pub nowhere : (m : Member) (members : List Member) (first at : ℕ) → first ≤ at → at ≤ first
    → is_among m (drop at members) ≡ false → false ≡ is_among m (drop first members)
nowhere m members first at f l h = grind arith

-- after all of them there is none
pub at_end : (m : Member) (members : List Member) (n : ℕ) → n ≡ length members → is_among m (drop n members) ≡ false
at_end m [] zero e = refl
at_end m [] (suc n) e = refl
at_end m (x ∷ members) zero e = absurd (omega arith)
at_end m (x ∷ members) (suc n) e = at_end m members n (omega arith)

-- ---- one more

pub added_not : (m : Member) (members : List Member) → true ≡ is_among m (drop (length members - 256) members) → members ≡ added members m
unfolding added
added_not m members e = ap (λ (b : Bool). if b then members else members ++ m ∷ []) e

pub added_one : (m : Member) (old new : List Member) → false ≡ is_among m (drop (length old - 256) old) → new ≡ old ++ m ∷ []
    → new ≡ added old m
unfolding added
added_one m old new e h = h ∙ ap (λ (b : Bool). if b then old else old ++ m ∷ []) e
