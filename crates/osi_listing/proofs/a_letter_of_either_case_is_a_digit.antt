-- A character's value as a digit, by comparing it with the decimal digits and with the letters: for `runs::value_of`.
use Rattle.std.proofs.Common.{zero, suc, ◌&&◌, nat_eq, nat_lt, bit_or}
use Rattle.std.proofs.lemmas.Bool.{and_parts, cases_eq, eqb-true}
use Rattle.osi_listing.proofs.Vocabulary.{◌≡◌, ◌<◌, ◌≤◌, ℕ, ◌+◌, ◌%◌, Bool, true, if◌then◌else◌, refl, inl, inr, arith, hex_digit_value}
use Rattle.osi_listing.specs.Runs.{value_or_255}

-- how far a character is above the digit 0, and above the letter a; capitals become small letters
abbrev above_0 : ℕ → ℕ
above_0 c = (c + 208) % 256

abbrev above_a : ℕ → ℕ
above_a c = (bit_or c 32 + 159) % 256

abbrev value_by : ℕ → ℕ
value_by c = if nat_lt (above_0 c) 10 then above_0 c else if nat_lt (above_a c) 6 then above_a c + 10 else 255

-- it is right for the characters below n
unfoldable right_below : ℕ → Bool
right_below zero = true
right_below (suc n) = nat_eq (value_by n) (value_or_255 (hex_digit_value n)) && right_below n

right_at : (n : ℕ) → right_below n ≡ true → (c : ℕ) → c < n → value_by c ≡ value_or_255 (hex_digit_value c)
unfolding right_below
right_at zero h c lt = absurd (omega arith)
right_at (suc n) h c lt =
    let both = and_parts (nat_eq (value_by n) (value_or_255 (hex_digit_value n))) (right_below n) h in
    elim (cases_eq c n) [
      | inl same ↦ rw same (eqb-true (value_by n) (value_or_255 (hex_digit_value n)) both.0)
      | inr other ↦ right_at n both.1 c (omega arith)
    ]

by_either : (c : ℕ) → c < 256 → value_by c ≡ value_or_255 (hex_digit_value c)
unfolding right_below
by_either c lt = right_at 256 refl c lt

pub of_a_letter : (c : ℕ) → c < 256 → 10 ≤ (c + 208) % 256 → (bit_or c 32 + 159) % 256 < 6 →
    (bit_or c 32 + 159) % 256 + 10 ≡ value_or_255 (hex_digit_value c)
of_a_letter c lt some few = grind (arith, by_either c lt)

pub of_no_digit : (c : ℕ) → c < 256 → 10 ≤ (c + 208) % 256 → 6 ≤ (bit_or c 32 + 159) % 256 → 255 ≡ value_or_255 (hex_digit_value c)
of_no_digit c lt some more = grind (arith, by_either c lt)
