-- Numbers modulo 128 and the counts that they represent.
use Rattle.osi_class.proofs.Vocabulary.{steps_before, numbers, ◌≡◌, ℕ, zero, suc, ◌+◌, ◌%◌, ◌<◌, [], ◌∷◌, ◌++◌, ap, arith}

-- the number after the one of a count is that of the next count
pub next_number : (count : ℕ) → (count % 128 + 1) % 128 ≡ (count + 1) % 128
next_number count = omega arith

-- going back from a count's number by fewer than 128 is going back from the count
pub earlier_number : (count ahead : ℕ) → ahead < 128 → steps_before ((count + ahead) % 128) ahead ≡ count % 128
earlier_number count ahead small = omega arith

-- the steps between the numbers of two counts less than 128 apart are those between the counts
pub steps_between : (count ahead : ℕ) → ahead < 128 → steps_before ((count + ahead) % 128) (count % 128) ≡ ahead
steps_between count ahead small = omega arith

-- one more unit, after the others
pub numbers_snoc : (count units : ℕ) → numbers count (suc units) ≡ numbers count units ++ ((count + units) % 128) ∷ []
numbers_snoc count zero = let e : count % 128 ≡ (count + 0) % 128 = omega arith in ap (λ (n : ℕ). n ∷ []) e
numbers_snoc count (suc units) = grind (arith, numbers_snoc (count + 1) units)
