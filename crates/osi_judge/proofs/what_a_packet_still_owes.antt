-- Of a whole packet the units are still to pass that have not passed, each once: for the functions that let a packet pass.
use Rattle.osi_judge.proofs.Vocabulary.{◌≡◌, ◌∙◌, sym, ap, subst, ℕ, zero, suc, ◌+◌, ◌-◌, ◌<◌, List, [], ◌∷◌, drop, arith, add-one, Option}
use Rattle.osi_judge.proofs.Vocabulary.{None, drop-nil, units_left, GivesUnit, Value, Units, Tpdu, Direction, Proceedings, Course}
use Rattle.osi_judge.proofs.Vocabulary.{units_pass, HoldsCourse, IsDue, unit_due, Comes, OwesUnits, OwesLast}

-- ---- the first units are left out

drop_next : (n : ℕ) (xs : List Value) (v : Value) (ys : List Value) → drop n xs ≡ v ∷ ys → drop (suc n) xs ≡ ys
drop_next zero [] v ys e = absurd (cc)
drop_next zero (x ∷ xs) v ys e = cc
drop_next (suc n) [] v ys e = absurd (cc)
drop_next (suc n) (x ∷ xs) v ys e = drop_next n xs v ys e

drop_more : (n : ℕ) (xs : List Value) (v : Value) (ys : List Value) → drop n xs ≡ v ∷ ys → drop (n + 1) xs ≡ ys
drop_more n xs v ys e = ap (λ (k : ℕ). drop k xs) (add-one n) ∙ drop_next n xs v ys e

pub drop_given : (n : ℕ) (o : Option Tpdu) (old new : Units) → GivesUnit old o new → 0 < n
    → drop n (units_left old) ≡ drop (n - 1) (units_left new)
drop_given n o old new h some = grind (arith, drop-nil)

-- ---- the units that are left

comes_anew : (d : Direction) (at : ℕ) (vs : List Value) (x c : Course) → units_pass d at vs x ≡ c → Comes None d at vs x c
comes_anew d at vs x c e = grind arith

-- the next unit passes
pub next_owed : (w n : Proceedings) (d : Direction) (at : ℕ) (vs : List Value) (v : Value) (was left : List Value) (c : Course)
    → was ≡ v ∷ left → ((k : Course) → HoldsCourse w k → HoldsCourse n (unit_due w.told d at v k)) → n.told ≡ None
    → n.passed ≡ w.passed + 1 → OwesLast w d at vs was c → OwesLast n d at vs left c
next_owed w n d at vs v was left c e holds told passed h = search (arith, drop_more, comes_anew)

-- memory was short for the next unit
pub still_owed : (w n : Proceedings) (d : Direction) (at : ℕ) (vs : List Value) (v : Value) (was left : List Value) (c : Course)
    → was ≡ v ∷ left → ((k : Course) → HoldsCourse w k → IsDue n d at v (unit_due w.told d at v k)) → n.passed ≡ w.passed
    → OwesLast w d at vs was c → OwesUnits n d at (drop n.passed vs) c
still_owed w n d at vs v was left c e due passed h = grind arith

-- no unit is left
pub none_owed : (w : Proceedings) (d : Direction) (at : ℕ) (vs was : List Value) (c : Course) → was ≡ [] → OwesLast w d at vs was c
    → HoldsCourse w c × (w.told ≡ None)
none_owed w d at vs was c e h = grind arith

-- of a packet of which some units have passed
pub rest_owed : (w : Proceedings) (d : Direction) (at : ℕ) (vs left : List Value) (c : Course) → left ≡ drop w.passed vs
    → OwesUnits w d at (drop w.passed vs) c → OwesLast w d at vs left c
rest_owed w d at vs left c e h = record { units = sym e; owes = subst (λ (us : List Value). OwesUnits w d at us c) (sym e) h }
