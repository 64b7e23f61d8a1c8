-- Adding an option to another, if at most one of them is Some; the same for a list of options.
use Rattle.osi_spdu.proofs.Vocabulary.{◌≡◌, ℕ, Bool, true, cond, List, [], ◌∷◌, Option, Some, None, arith, Sole}

-- `after` is `before` with this option; at most one of the two is Some
abbrev pub Joins : Option (List ℕ) → Option (List ℕ) → Option (List ℕ) → Type 0
Joins None before after = after ≡ before
Joins (Some v) before after = (before ≡ None) × (after ≡ Some v)

abbrev pub merged : Option (List ℕ) → Option (List ℕ) → Option (List ℕ)
merged None m = m
merged (Some v) m = Some v

abbrev pub first : List (Option (List ℕ)) → Option (List ℕ)
first [] = None
first (None ∷ xs) = first xs
first (Some v ∷ xs) = Some v

pub sole_one : (o : Option (List ℕ)) → Sole (o ∷ []) o
sole_one o = grind arith

pub sole_same : (o p : Option (List ℕ)) → Sole (o ∷ []) p → p ≡ o
sole_same o p h = grind arith

pub sole_step : (m k k' : Option (List ℕ)) (xs : List (Option (List ℕ))) (o : Option (List ℕ)) → Joins m k k' → Sole (k ∷ m ∷ xs) o →
    Sole (k' ∷ xs) o
sole_step m k k' xs o h0 h1 = grind arith

pub sole_back : (m k k' : Option (List ℕ)) (xs : List (Option (List ℕ))) (o : Option (List ℕ)) → Joins m k k' → Sole (k' ∷ xs) o →
    Sole (k ∷ m ∷ xs) o
sole_back m k k' xs o h0 h1 = grind arith

pub sole_joins : (m k : Option (List ℕ)) (xs : List (Option (List ℕ))) (o : Option (List ℕ)) → Sole (k ∷ m ∷ xs) o → Joins m k (merged k m)
sole_joins m k xs o h0 = grind arith

pub sole_first : (xs : List (Option (List ℕ))) (o : Option (List ℕ)) → Sole xs o → o ≡ first xs
sole_first [] o h = h
sole_first (None ∷ xs) o h = sole_first xs o h
sole_first (Some v ∷ xs) o h = h.0

pub sole_split : (k : Option (List ℕ)) (xs : List (Option (List ℕ))) (o : Option (List ℕ)) → Sole (k ∷ xs) o →
    Sole xs (first xs) × Joins (first xs) k o
sole_split k xs o h0 = grind (arith, sole_first, first, Joins)

pub sole_join : (m k : Option (List ℕ)) (xs : List (Option (List ℕ))) (o : Option (List ℕ)) → Sole xs m → Joins m k o → Sole (k ∷ xs) o
sole_join m k xs o h0 h1 = grind arith

-- one after the other is both at once
pub joins_both : (p m k kg k' : Option (List ℕ)) → Joins p k kg → Joins m kg k' →
    Sole (p ∷ m ∷ []) (first (p ∷ m ∷ [])) × Joins (first (p ∷ m ∷ [])) k k'
joins_both p m k kg k' h j = sole_split k (p ∷ m ∷ []) k' (sole_back p k kg (m ∷ []) k' h (sole_join m kg (m ∷ []) k' (sole_one m) j))

-- both at once is one after the other
pub joins_apart : (p m g k k' : Option (List ℕ)) → Sole (p ∷ m ∷ []) g → Joins g k k' → Joins p k (merged k p) × Joins m (merged k p) k'
joins_apart p m g k k' h0 h1 = grind (arith, sole_join, sole_joins, sole_step, merged, Joins, sole_split)

-- ---- a value put at a slot

pub put_joins : (b : Bool) (v : List ℕ) (k : Option (List ℕ)) → (b ≡ true → k ≡ None) → Joins (cond b (Some v) None) k (cond b (Some v) k)
put_joins b v k h = grind arith

pub joins_merged : (b : Bool) (v : List ℕ) (k : Option (List ℕ)) → Joins (cond b (Some v) None) k (merged k (cond b (Some v) None)) →
    merged k (cond b (Some v) None) ≡ cond b (Some v) k
joins_merged b v k j = grind arith
