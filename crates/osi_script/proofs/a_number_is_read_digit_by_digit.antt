-- The number that digits spell, digit by digit.
use Rattle.std.proofs.Common.{◌≡◌, ℕ, ◌+◌, ◌-◌, ◌*◌, ◌<◌, ◌≤◌, ◌&&◌, Bool, true, false, List, [], ◌∷◌, length, drop, Option, Some, None}
use Rattle.std.proofs.Common.{sym, ap, arith, ◌∙◌}
use Rattle.std.specs.Prelude.{nat_le, if◌then◌else◌}
use Rattle.std.proofs.lemmas.Bool.Decides.{nat_tests}
use Rattle.std.proofs.lemmas.List.{drop_all}
use Rattle.osi_script.specs.Words.{is_digit, numeral, number_behind}

-- more digits do not make a number smaller
numeral_grows : (n : ℕ) (digits : List ℕ) → n ≤ numeral n digits
numeral_grows n [] = omega arith
numeral_grows n (digit ∷ digits) = let more = numeral_grows (n * 10 + (digit - 48)) digits in omega arith

abbrev given : Bool → ℕ → Option ℕ
given b n = if b then Some n else None

-- a test that fails refuses, and one that holds leaves the rest
refused_first : (b c : Bool) (n : ℕ) → b ≡ false → given (b && c) n ≡ None
refused_first b c n h = grind arith

refused_second : (b c : Bool) (n : ℕ) → c ≡ false → given (b && c) n ≡ None
refused_second b c n h = grind arith

pub both_refused : (a b : Bool) → a ≡ false → (a && b) ≡ false
both_refused a b h = grind arith

pub one_left : (a b : Bool) → a ≡ true → (a && b) ≡ b
one_left a b h = grind arith

below_is_none : (digit : ℕ) → digit < 48 → is_digit digit ≡ false
below_is_none digit h = grind (arith, nat_tests)

above_is_none : (digit : ℕ) → 57 < digit → is_digit digit ≡ false
above_is_none digit h = grind (arith, nat_tests)

between_is_one : (digit : ℕ) → 48 ≤ digit → digit ≤ 57 → is_digit digit ≡ true
between_is_one digit low high = grind (arith, nat_tests)

above_fails : (a b : ℕ) → b < a → nat_le a b ≡ false
above_fails a b h = grind (arith, nat_tests)

not_above : (a b : ℕ) → a ≤ b → nat_le a b ≡ true
not_above a b h = grind (arith, nat_tests)

without_digit : (most n digit : ℕ) (digits : List ℕ) → is_digit digit ≡ false → number_behind most n (digit ∷ digits) ≡ None
unfolding number_behind
without_digit most n digit digits h = grind (arith, refused_first, both_refused)

pub no_digit : (most n digit : ℕ) (digits : List ℕ) → digit < 48 → number_behind most n (digit ∷ digits) ≡ None
no_digit most n digit digits h = without_digit most n digit digits (below_is_none digit h)

pub no_digit_above : (most n digit : ℕ) (digits : List ℕ) → 57 < digit → number_behind most n (digit ∷ digits) ≡ None
no_digit_above most n digit digits h = without_digit most n digit digits (above_is_none digit h)

pub too_great : (most n digit : ℕ) (digits : List ℕ) → most < n * 10 + (digit - 48) → number_behind most n (digit ∷ digits) ≡ None
unfolding number_behind
too_great most n digit digits h = grind (arith, numeral_grows, refused_second, above_fails)

pub one_digit : (most n digit : ℕ) (digits : List ℕ) → 48 ≤ digit → digit ≤ 57 →
    number_behind most n (digit ∷ digits) ≡ number_behind most (n * 10 + (digit - 48)) digits
unfolding number_behind
one_digit most n digit digits low high = grind (arith, one_left, between_is_one)

number_read : (most n : ℕ) → n ≤ most → number_behind most n [] ≡ Some n
unfolding number_behind
number_read most n h = ap (λ (b : Bool). given b n) (not_above n most h)

-- no digit is left
pub number_end : (most n i : ℕ) (word : List ℕ) → n ≤ most → number_behind most n (drop i word) ≡ number_behind most 0 word →
    length word ≤ i → Some n ≡ number_behind most 0 word
number_end most n i word h same all = sym (number_read most n h) ∙ ap (number_behind most n) (sym (drop_all i word all)) ∙ same
