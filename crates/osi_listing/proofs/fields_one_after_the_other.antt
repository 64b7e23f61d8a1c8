-- The fields of a session unit, from one to the next.
use Rattle.osi_listing.proofs.Vocabulary.{◌≡◌, ℕ, Bool, ◌+◌, ◌/◌, ◌%◌, ◌<◌, ◌≤◌, true, false, drop, length, List, [], ◌∷◌, ◌++◌, refl, sym}
use Rattle.osi_listing.proofs.Vocabulary.{ap, ◌∙◌, arith, codes, slice_index, option_map, is_some, Option, None, decimal, join_with_byte}
use Rattle.osi_listing.proofs.Vocabulary.{decimal_digit, decimal_step, append-nil, drop_all, drop_more, encode_lower, data0, bit}
use Rattle.osi_listing.proofs.Vocabulary.{fields_left, SpduFault, LengthPastEnd}
use Rattle.std.proofs.Common.{append_assoc}
use Rattle.hex.specs.Hex.{encode_with}
use Rattle.osi_listing.specs.Lines.{unit_fields, unit_line}
use Rattle.osi_listing.specs.SessionLines.{session_fault_line}

-- a number of two digits
pub two_digits : (n : ℕ) → 10 ≤ n → n < 100 → decimal n ≡ (48 + n / 10) ∷ (48 + n % 10) ∷ []
two_digits n some few = grind (arith, decimal_step, decimal_digit)

-- and one of three digits
pub three_digits : (n : ℕ) → 100 ≤ n → n < 1000 → decimal n ≡ (48 + n / 100) ∷ (48 + n / 10 % 10) ∷ (48 + n % 10) ∷ []
three_digits n some few = grind (arith, decimal_step, two_digits)

-- the line of a data unit of class 0
pub line_of_data_0 : (end : Bool) (user : List ℕ) → unit_line (data0 end user)
    ≡ (codes "  DT number 0 eot " ++ (48 + bit end) ∷ codes " octets ") ++ (decimal (length user) ++ codes "\n")
unfolding unit_line unit_fields
line_of_data_0 end user = grind (arith, decimal_digit)

pub data_0_added : (text mid new words : List ℕ) (end : Bool) (user : List ℕ) →
    words ≡ codes "  DT number 0 eot " ++ (48 + bit end) ∷ codes " octets " → mid ≡ text ++ words →
    new ≡ mid ++ (decimal (length user) ++ codes "\n") → new ≡ text ++ unit_line (data0 end user)
data_0_added text mid new words end user e h k = grind (arith, append_assoc, line_of_data_0)

-- a value that is not there
pub not_there : (o : Option (List ℕ)) → is_some o ≡ false → o ≡ None
not_there o e = grind arith

pub mapped : {A B : Type 0} (f : A → B) (o : Option A) → is_some (option_map f o) ≡ is_some o
mapped f o = grind arith

pub encode_lower_append : (a b : List ℕ) → encode_lower (a ++ b) ≡ encode_lower a ++ encode_lower b
unfolding encode_with
encode_lower_append [] b = refl
encode_lower_append (x ∷ a) b = grind (arith, encode_lower_append a b)

-- an octet, and those after it
pub encode_lower_cons : (x : ℕ) (rest : List ℕ) → encode_lower (x ∷ rest) ≡ encode_lower (x ∷ []) ++ encode_lower rest
encode_lower_cons x rest = encode_lower_append (x ∷ []) rest

-- octets, one more of which is added
pub hex_goes_on : (i : ℕ) (text new all octets : List ℕ) → i < length octets → new ≡ text ++ encode_lower (slice_index octets i ∷ []) →
    text ++ encode_lower (drop i octets) ≡ all → new ++ encode_lower (drop (i + 1) octets) ≡ all
hex_goes_on i text new all octets h e so_far = grind (arith, append_assoc, encode_lower_cons, drop_more)

-- all octets are added
pub hex_ends : (i : ℕ) (text all octets : List ℕ) → length octets ≤ i → text ++ encode_lower (drop i octets) ≡ all → text ≡ all
unfolding encode_with
hex_ends i text all octets h so_far = sym (append-nil text) ∙ ap (λ o. text ++ encode_lower o) (sym (drop_all i octets h)) ∙ so_far

-- a word, and the two octets of a reference
pub reference_added : (old word mid more new : List ℕ) (a b : ℕ) → mid ≡ old ++ word → more ≡ mid ++ encode_lower (a ∷ []) →
    new ≡ more ++ encode_lower (b ∷ []) → new ≡ old ++ (word ++ encode_lower (a ∷ b ∷ []))
reference_added old word mid more new a b e h k = grind (arith, append_assoc, encode_lower_cons)

-- a value is added in two parts
pub value_added : (text made lent mid new : List ℕ) → mid ≡ text ++ encode_lower made → new ≡ mid ++ encode_lower lent →
    new ≡ text ++ encode_lower (made ++ lent)
value_added text made lent mid new h k = grind (arith, append_assoc, encode_lower_append)

-- ---- fields with a blank between each two

fields_joined : (field : List ℕ) (fields : List (List ℕ)) → field ++ fields_left false fields ≡ join_with_byte 32 (field ∷ fields)
fields_joined field [] = append-nil field
fields_joined field (next ∷ fields) = ap (λ t. field ++ 32 ∷ t) (fields_joined next fields)

pub joined_fields : (fields : List (List ℕ)) → fields_left true fields ≡ join_with_byte 32 fields
joined_fields [] = refl
joined_fields (field ∷ fields) = fields_joined field fields

-- the fault of an empty TSDU
zero_digit : decimal 0 ≡ codes "0"
zero_digit = grind (arith, decimal_digit)

line_of_an_empty_tsdu : codes "    fault 0 LengthPastEnd\n" ≡ session_fault_line (LengthPastEnd 0)
unfolding session_fault_line
line_of_an_empty_tsdu = rw zero_digit refl

pub line_of_no_tsdu : (fault : SpduFault) (at : ℕ) → fault ≡ LengthPastEnd at → at ≡ 0 →
    codes "    fault 0 LengthPastEnd\n" ≡ session_fault_line fault
line_of_no_tsdu fault at e z = line_of_an_empty_tsdu ∙ ap session_fault_line (ap LengthPastEnd (sym z) ∙ sym e)
