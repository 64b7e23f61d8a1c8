-- Units whose values have few octets fit.
use Rattle.osi_spdu.proofs.Vocabulary.{cases_Bool, Code, UserData, ExtendedUserData, Kind, every_code, codes_of, members_of, digits_of}
use Rattle.osi_spdu.proofs.Vocabulary.{canonical, Known, Contents, IsCanonical, UnitFits, value_len, free_len, Params, number_of, place_of}
use Rattle.osi_spdu.proofs.Vocabulary.{cells_of, slots_of, known_of, lent_len, ◌≡◌, ℕ, ◌+◌, ◌≤◌, Bool, true, false, List, length, Option}
use Rattle.osi_spdu.proofs.Vocabulary.{Some, None, if◌then◌else◌, refl, ap, eqb, ltb, leb, arith, CalledReference, CallingReference}
use Rattle.osi_spdu.proofs.Vocabulary.{CommonReference, AdditionalReference, Reflect, Reason}
use Rattle.osi_spdu.proofs.form.values_in_memory_are_in_their_form.{params_canonical}
use Rattle.osi_spdu.proofs.form.what_was_read_fits.{total, member_cost, unit_cost, part_cost, total_less, group_len, body_len}

-- ---- values of few octets

-- the codes whose values may have any length
abbrev is_free : Code → Bool
is_free CalledReference = true
is_free CallingReference = true
is_free CommonReference = true
is_free AdditionalReference = true
is_free Reflect = true
is_free Reason = true
is_free UserData = true
is_free ExtendedUserData = true
is_free _ = false

-- a value of any other code has few octets
short_value : (c : Code) (v : List ℕ) → is_free c ≡ false → canonical c v ≡ Some v → length v ≤ 16
unfolding canonical
short_value c v f e = search (arith, digits_of, eqb, ltb, leb)

-- ---- a unit by its values

abbrev weight : Known → Code → ℕ
weight known c = 4 + value_len (known c)

-- each code occurs at most once in a unit
unit_weight : (kind : Kind) (known : Known) →
    total (λ c. weight known c + total (weight known) (members_of kind c)) (codes_of kind) ≤ total (weight known) every_code
unfolding codes_of members_of
unit_weight kind known = grind arith

-- the weight of a code, if each value that is not free has as many octets as it may have
abbrev most_weight : Known → Code → ℕ
most_weight known c = if is_free c then weight known c else 20

each_weight : (known : Known) (c : Code) → IsCanonical known → weight known c ≤ most_weight known c
each_weight known c is = by (is_free c) (known c) refl refl
  where
    by : (b : Bool) (o : Option (List ℕ)) → is_free c ≡ b → known c ≡ o → 4 + value_len o ≤ (if b then 4 + value_len o else 20)
    by true o f e = omega arith
    by false None f e = omega arith
    by false (Some v) f e = omega (arith, short_value c v f (is.values c v e))

all_weight : (known : Known) → IsCanonical known → total (weight known) every_code ≤ 400 + free_len known
unfolding free_len
all_weight known is =
    let each = total_less (weight known) (most_weight known) every_code (λ c. each_weight known c is) in
    let none = ap value_len is.slots in
    omega arith

-- a unit whose free values have at most 65,000 octets fits
pub few_fit : (unit : Contents) → IsCanonical unit.known → free_len unit.known ≤ 65000 → UnitFits unit
few_fit unit is few =
    let a = body_len unit.kind unit.known in
    let b = total_less (part_cost unit.kind unit.known) (λ c. weight unit.known c + total (weight unit.known) (members_of unit.kind c))
    (codes_of unit.kind) (grind (arith, unit_cost, total, cases_Bool, group_len, total_less, member_cost)) in
    grind (arith, unit_weight unit.kind unit.known, all_weight unit.known is)

-- a unit whose parameters of any length have at most 65,000 octets fits
pub made_fits : (unit : Contents) (p : Params) → unit.known ≡ known_of p → lent_len p ≤ 65000 → UnitFits unit
unfolding free_len known_of slots_of cells_of place_of number_of
made_fits unit p same few = grind (arith, few_fit, params_canonical p, free_len (known_of p), known_of p)
