-- The table of digits holds what a digit is worth, and two of them make an octet: for `value_of`, `octet_of`,
-- `octets_of_eight` and `front_octet`.
use Rattle.std.proofs.Common.{zero, suc, ◌&&◌, nat_eq, get_or}
use Rattle.std.proofs.lemmas.Bool.{and_parts, cases_eq, eqb-true}
use Rattle.osi_listing.proofs.Vocabulary.{◌≡◌, ◌<◌, ◌≤◌, ℕ, ◌+◌, ◌*◌, Bool, true, List, Option, Some, None, length}
use Rattle.osi_listing.proofs.Vocabulary.{slice_index}
use Rattle.osi_listing.proofs.Vocabulary.{if_digit, refl, inl, inr, arith, hex_digit_value, after_octets, octets_from, ◌∷◌, []}
use Rattle.osi_listing.specs.Digits.{octet_by, octet_of, value_or_no}

-- the table holds the values below n
unfoldable pub agrees_below : List ℕ → ℕ → Bool
agrees_below table zero = true
agrees_below table (suc n) = nat_eq (get_or table n 0) (value_or_no (hex_digit_value n)) && agrees_below table n

agrees_at : (table : List ℕ) (n : ℕ) → agrees_below table n ≡ true → (c : ℕ) → c < n → get_or table c 0 ≡ value_or_no (hex_digit_value c)
unfolding agrees_below
agrees_at table zero h c lt = absurd (omega arith)
agrees_at table (suc n) h c lt =
    let both = and_parts (nat_eq (get_or table n 0) (value_or_no (hex_digit_value n))) (agrees_below table n) h in
    elim (cases_eq c n) [
      | inl same ↦ rw same (eqb-true (get_or table n 0) (value_or_no (hex_digit_value n)) both.0)
      | inr other ↦ agrees_at table n both.1 c (omega arith)
    ]

pub from_table : (table : List ℕ) (c : ℕ) → c < 256 → agrees_below table 256 ≡ true → get_or table c 0 ≡ value_or_no (hex_digit_value c)
from_table table c lt h = agrees_at table 256 h c lt

pub value_small : (c v : ℕ) → hex_digit_value c ≡ Some v → v < 16
value_small c v h = search arith

-- at most 65,536 in any case
pub value_most : (c : ℕ) → value_or_no (hex_digit_value c) ≤ 65536
value_most c = most (hex_digit_value c) refl where
  most : (o : Option ℕ) → hex_digit_value c ≡ o → value_or_no o ≤ 65536
  most None h = omega arith
  most (Some v) h = let small = value_small c v h in omega arith

octet_by_values : (a b : Option ℕ) → ((v : ℕ) → a ≡ Some v → v < 16) → ((v : ℕ) → b ≡ Some v → v < 16) →
    value_or_no a * 16 + value_or_no b < 65536 → octet_by a b ≡ Some (value_or_no a * 16 + value_or_no b)
octet_by_values None b f g lt = absurd (omega arith)
octet_by_values (Some h) None f g lt = absurd (omega arith)
octet_by_values (Some h) (Some l) f g lt = refl

none_by_values : (a b : Option ℕ) → ((v : ℕ) → a ≡ Some v → v < 16) → ((v : ℕ) → b ≡ Some v → v < 16) →
    65536 ≤ value_or_no a * 16 + value_or_no b → octet_by a b ≡ None
none_by_values None b f g least = refl
none_by_values (Some h) None f g least = refl
none_by_values (Some h) (Some l) f g least = let small = f h refl in let other = g l refl in absurd (omega arith)

pub is_octet : (high low : ℕ) → value_or_no (hex_digit_value high) * 16 + value_or_no (hex_digit_value low) < 65536 →
    octet_of high low ≡ Some (value_or_no (hex_digit_value high) * 16 + value_or_no (hex_digit_value low))
is_octet high low lt = octet_by_values (hex_digit_value high) (hex_digit_value low) (value_small high) (value_small low) lt

pub is_none : (high low : ℕ) → 65536 ≤ value_or_no (hex_digit_value high) * 16 + value_or_no (hex_digit_value low) →
    octet_of high low ≡ None
is_none high low least = none_by_values (hex_digit_value high) (hex_digit_value low) (value_small high) (value_small low) least

small_by : (a b : Option ℕ) → ((v : ℕ) → a ≡ Some v → v < 16) → ((v : ℕ) → b ≡ Some v → v < 16) →
    value_or_no a * 16 + value_or_no b < 65536 → value_or_no a * 16 + value_or_no b < 256
small_by None b f g lt = absurd (omega arith)
small_by (Some h) None f g lt = absurd (omega arith)
small_by (Some h) (Some l) f g lt = let small = f h refl in let other = g l refl in omega arith

-- two digits as a number, which is more than an octet unless both are digits
abbrev pub number_of_two : ℕ → ℕ → ℕ
number_of_two high low = value_or_no (hex_digit_value high) * 16 + value_or_no (hex_digit_value low)

pub is_small : (high low : ℕ) → number_of_two high low < 65536 → number_of_two high low < 256
is_small high low lt = small_by (hex_digit_value high) (hex_digit_value low) (value_small high) (value_small low) lt

-- ---- one octet after the other

-- an octet, if it is there, and those after it
abbrev pub with_octet : Option ℕ → Option (List ℕ) → Option (List ℕ)
with_octet None more = None
with_octet (Some octet) more = after_octets (octet ∷ []) more

pair_by : (high low : Option ℕ) (more : Option (List ℕ)) →
    if_digit high (λ h. if_digit low (λ l. after_octets ((h * 16 + l) ∷ []) more)) ≡ with_octet (octet_by high low) more
pair_by None low more = refl
pair_by (Some h) None more = refl
pair_by (Some h) (Some l) more = refl

pub pair_read : (a b : ℕ) (rest : List ℕ) → octets_from (a ∷ b ∷ rest) None ≡ with_octet (octet_of a b) (octets_from rest None)
pair_read a b rest = pair_by (hex_digit_value a) (hex_digit_value b) (octets_from rest None)

-- the octets of four pairs
four_by : (o p q r : Option ℕ) (a b c d e f g h : ℕ) → octet_of a b ≡ o → octet_of c d ≡ p → octet_of e f ≡ q → octet_of g h ≡ r →
    octets_from (a ∷ b ∷ c ∷ d ∷ e ∷ f ∷ g ∷ h ∷ []) None ≡ with_octet o (with_octet p (with_octet q (with_octet r (Some []))))
four_by o p q r a b c d e f g h u v w x =
    rw (
      pair_read a b (c ∷ d ∷ e ∷ f ∷ g ∷ h ∷ []),
      pair_read c d (e ∷ f ∷ g ∷ h ∷ []),
      pair_read e f (g ∷ h ∷ []),
      pair_read g h [],
      u,
      v,
      w,
      x,
    ) refl

four_are : (a b c d e f g h : ℕ) → number_of_two a b + number_of_two c d + number_of_two e f + number_of_two g h < 65536 →
    octets_from (a ∷ b ∷ c ∷ d ∷ e ∷ f ∷ g ∷ h ∷ []) None
    ≡ Some (number_of_two a b ∷ number_of_two c d ∷ number_of_two e f ∷ number_of_two g h ∷ [])
four_are a b c d e f g h lt =
    four_by (Some (number_of_two a b)) (Some (number_of_two c d)) (Some (number_of_two e f)) (Some (number_of_two g h)) a b c d e f g h
    (is_octet a b (omega arith)) (is_octet c d (omega arith)) (is_octet e f (omega arith)) (is_octet g h (omega arith))

-- the same of the characters of a list
pub eight_are : (cs : List ℕ) → length cs ≡ 8 →
    number_of_two (slice_index cs 0) (slice_index cs 1) + number_of_two (slice_index cs 2) (slice_index cs 3)
    + number_of_two (slice_index cs 4) (slice_index cs 5) + number_of_two (slice_index cs 6) (slice_index cs 7) < 65536 →
    octets_from cs None
    ≡ Some (number_of_two (slice_index cs 0) (slice_index cs 1) ∷ number_of_two (slice_index cs 2) (slice_index cs 3)
    ∷ number_of_two (slice_index cs 4) (slice_index cs 5) ∷ number_of_two (slice_index cs 6) (slice_index cs 7) ∷ [])
eight_are (a ∷ b ∷ c ∷ d ∷ e ∷ f ∷ g ∷ h ∷ []) eight lt = four_are a b c d e f g h lt
eight_are _ eight lt = absurd (omega arith)
