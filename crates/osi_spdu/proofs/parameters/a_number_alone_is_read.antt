-- A serial number that is the only parameter of a unit is read as the loop over parameters reads it.
-- For `levels::digits_alone` and `levels::number_alone`.
use Rattle.osi_spdu.proofs.Vocabulary.{le-ltb, ne_eqb, drop_all, take_all, numeral, digits_of, canonical, canonical_in, may_enclose, Number}
use Rattle.osi_spdu.proofs.Vocabulary.{number_of, slot_of, is_group, Kind, codes_of, among, Params, place_of, cells_of, slots_of, nothing}
use Rattle.osi_spdu.proofs.Vocabulary.{Measured, measured_at, parameter_at, params_of, in_unit, ◌≡◌, ℕ, ◌+◌, ◌≤◌, true, cond, ltb, eqb}
use Rattle.osi_spdu.proofs.Vocabulary.{List, [], ◌∷◌, length, take, drop, get_or, set, Some, Ok, ◌-◌, refl, arith}
use Rattle.osi_spdu.proofs.basics.the_steps_of_reading.{bind_of}
use Rattle.osi_spdu.proofs.parameters.a_code_is_looked_up.{if_among, looked_up}
use Rattle.osi_spdu.proofs.parameters.parameters_one_after_the_other.{stored_done, taking_start, taking_next, taking_end}

-- the code 42, a length, and so many octets
counted : (at n : ℕ) (digits : List ℕ) → n ≤ 6 → n ≡ length digits →
    parameter_at at (42 ∷ n ∷ digits) ≡ Ok (42, (let m : Measured = record { used = 1; value = digits; rest = [] } in m))
unfolding parameter_at measured_at
counted at n digits few same = grind (arith, eqb, ne_eqb, ltb, le-ltb, take_all, drop_all)

number_taken : (kind : Kind) (at body number : ℕ) (digits : List ℕ) (p q : Params) → among (codes_of kind) Number ≡ true →
    Some number ≡ numeral digits → slots_of p ≡ nothing → cells_of q ≡ set (cells_of p) 17 (Some (digits_of number)) →
    in_unit kind at body 42 digits nothing ≡ Ok (slots_of q)
unfolding in_unit is_group number_of slot_of place_of canonical_in may_enclose canonical
number_taken kind at body number digits p q knows e none cells = grind (arith, if_among, cond, looked_up, bind_of, stored_done)

pub number_alone : (kind : Kind) (at n number : ℕ) (digits : List ℕ) (p q : Params) → n ≤ 6 → n ≡ length digits →
    among (codes_of kind) Number ≡ true → Some number ≡ numeral digits → slots_of p ≡ nothing →
    cells_of q ≡ set (cells_of p) 17 (Some (digits_of number)) →
    params_of (in_unit kind) at nothing (42 ∷ n ∷ digits) ≡ Ok (slots_of q)
number_alone kind at n number digits p q few same knows e none cells =
    let octets : List ℕ = 42 ∷ n ∷ digits in
    let taken = number_taken kind at (at + (1 + 1)) number digits p q knows e none cells in
    taking_end (taking_next (taking_start (in_unit kind) at nothing octets) (counted at n digits few same) (omega arith) taken) refl

-- ---- the octets as they are sliced

abbrev pub digits_in : List ℕ → List ℕ
digits_in octets = take (length octets - 2) (drop 2 octets)

pub sliced : (octets : List ℕ) → 2 ≤ length octets → get_or octets 0 0 ≡ 42 → get_or octets 1 0 ≡ length (digits_in octets) →
    octets ≡ 42 ∷ length (digits_in octets) ∷ digits_in octets
sliced octets long a b = grind (arith, take_all)
