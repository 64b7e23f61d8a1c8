-- The written form of a value is no longer than the octets that were read.
use Rattle.std.proofs.Common.{◌≡◌, ℕ, zero, suc, ◌+◌, ◌*◌, ◌^◌, ◌<◌, ◌≤◌, true, List, [], ◌∷◌, length, Some}
use Rattle.std.proofs.Common.{option_map, ◌-◌, add-zero, zero-add, eqb, ltb, leb, arith}
use Rattle.osi_spdu.proofs.Vocabulary.{common_steps, list_all, and_parts, ltb-true, leb-true, Code, Kind, significant, six_digits}
use Rattle.osi_spdu.proofs.Vocabulary.{digits_of, decimal_from, decimal, is_digit, numeral, canonical, canonical_in}
use Rattle.osi_spdu.proofs.basics.digits_of_numbers.{significant_len}

-- ---- a value is written in no more octets than it was read in

few_digits : (n k : ℕ) → 1 ≤ k → k ≤ 6 → n < 10 ^ k → length (digits_of n) ≤ k
unfolding digits_of significant
few_digits n zero low high h = absurd (omega arith)
few_digits n (suc (suc (suc (suc (suc (suc k)))))) low high h = (let l = (significant_len (six_digits n)).0 in omega arith)
few_digits n _ low high h = grind (arith, significant_len)

-- n digits give a number below ten to the power n
decimal_small : (ds : List ℕ) (n k : ℕ) → list_all is_digit ds ≡ true → n < 10 ^ k → decimal_from n ds < 10 ^ (k + length ds)
unfolding decimal_from
decimal_small [] n k all h = rw (add-zero k) h
decimal_small (d ∷ ds) n k all h =
    let a = and_parts (is_digit d) (list_all is_digit ds) all in
    let b = and_parts (leb 48 d) (ltb d 58) a.0 in
    let high = ltb-true d 58 b.1 in
    let power : 10 ^ (k + 1) ≡ 10 * 10 ^ k = grind (arith, common_steps) in
    grind (arith, decimal_from, decimal_small ds (10 * n + (d - 48)) (k + 1) a.1 (omega arith))

numeral_shorter : (value v : List ℕ) → option_map digits_of (numeral value) ≡ Some v → length v ≤ length value
numeral_shorter value v e =
    grind (arith, and_parts, ltb-true, leb-true, decimal_small value 0 0, few_digits (decimal value) (length value), zero-add)

pub canonical_shorter : (c : Code) (value v : List ℕ) → canonical c value ≡ Some v → length v ≤ length value
unfolding canonical
canonical_shorter c value v e = search (arith, eqb, numeral_shorter, ltb, leb)

-- what a unit of some kind takes as the value of a code is one
pub canonical_from : (kind : Kind) (c : Code) (value v : List ℕ) → canonical_in kind c value ≡ Some v → canonical c value ≡ Some v
unfolding canonical_in
canonical_from kind c value v h0 = grind arith
