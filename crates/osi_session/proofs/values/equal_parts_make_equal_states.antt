-- Two states with the same parts are the same.
use Rattle.osi_session.proofs.Vocabulary.{and_parts, and_from, eqb-true, eq-eqb, TokenSetting, TsduMaximumSize, Tokens, Phase, Numbers}
use Rattle.osi_session.proofs.Vocabulary.{FunctionalUnits, State, ◌≡◌, ◌≢◌, ◌==◌, Bool, true, MatchBool, arith, same_bit, place_of}
use Rattle.osi_session.specs.Same.{same_setting, same_tokens, same_units, same_numbers, same_sizes, same_state}

bit_is : (a b : Bool) → same_bit a b ≡ true → a ≡ b
bit_is a b h0 = grind arith

phase_is : (a b : Phase) → (place_of a == place_of b) ≡ true → a ≡ b
phase_is a b e = grind arith

same_setting_is : (a b : TokenSetting) → same_setting a b ≡ true → a ≡ b
unfolding same_setting
same_setting_is a b e = search (arith, and_parts)

same_setting_refl : (a : TokenSetting) → same_setting a a ≡ true
unfolding same_setting
same_setting_refl a = grind (arith, and_from)

same_tokens_is : (a b : Tokens) → same_tokens a b ≡ true → a ≡ b
unfolding same_tokens
same_tokens_is a b e = grind (arith, and_parts, bit_is)

same_tokens_refl : (a : Tokens) → same_tokens a a ≡ true
unfolding same_tokens
same_tokens_refl a = grind (arith, and_from)

same_units_is : (a b : FunctionalUnits) → same_units a b ≡ true → a ≡ b
unfolding same_units
same_units_is a b e = search (arith, and_parts, bit_is)

same_units_refl : (a : FunctionalUnits) → same_units a a ≡ true
unfolding same_units
same_units_refl a = search (arith, and_from)

same_numbers_is : (a b : Numbers) → same_numbers a b ≡ true → a ≡ b
unfolding same_numbers
same_numbers_is a b e = grind (arith, and_parts, eqb-true, bit_is)

same_numbers_refl : (a : Numbers) → same_numbers a a ≡ true
unfolding same_numbers
same_numbers_refl a = grind (arith, and_from, eq-eqb)

same_sizes_is : (a b : TsduMaximumSize) → same_sizes a b ≡ true → a ≡ b
unfolding same_sizes
same_sizes_is a b e = grind (arith, and_parts, eqb-true)

same_sizes_refl : (a : TsduMaximumSize) → same_sizes a a ≡ true
unfolding same_sizes
same_sizes_refl a = grind (arith, and_from, eq-eqb)

same_state_is : (a b : State) → same_state a b ≡ true → a ≡ b
unfolding same_state
same_state_is a b e =
    let p0 = and_parts _ _ e in
    let p1 = and_parts _ _ p0.1 in
    let p2 = and_parts _ _ p1.1 in
    let p3 = and_parts _ _ p2.1 in
    let p4 = and_parts _ _ p3.1 in
    let p5 = and_parts _ _ p4.1 in
    let p6 = and_parts _ _ p5.1 in
    let p7 = and_parts _ _ p6.1 in
    λ i. record {
      phase = (phase_is a.phase b.phase p0.0) i;
      is_caller = (bit_is a.is_caller b.is_caller p1.0) i;
      units = (same_units_is a.units b.units p2.0) i;
      wishes = (same_setting_is a.wishes b.wishes p3.0) i;
      held = (same_tokens_is a.held b.held p4.0) i;
      proposed = (eqb-true a.proposed b.proposed p5.0) i;
      base = (eqb-true a.base b.base p6.0) i;
      numbers = (same_numbers_is a.numbers b.numbers p7.0) i;
      sizes = (same_sizes_is a.sizes b.sizes p7.1) i;
    }

same_state_refl : (a : State) → same_state a a ≡ true
unfolding same_state
same_state_refl a =
    grind (arith, and_from, eq-eqb, same_units_refl, same_setting_refl, same_tokens_refl, same_numbers_refl, same_sizes_refl)

-- the test tells
pub told : (a b : State) → MatchBool (same_state a b) (a ≡ b) (a ≢ b)
told a b = grind (arith, same_state_is, same_state_refl)
