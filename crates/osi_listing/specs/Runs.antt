-- Octets whose digits stand side by side.
use Rattle.std.specs.Prelude.{◌≡◌, ℕ, ◌+◌, ◌*◌, max, List, [], ◌∷◌, ◌++◌, map, Option, Some, None, ⊤}
use Rattle.hex.specs.Hex.{hex_digit_value}
use Rattle.osi_listing.specs.Capture.{octets_from}
use Rattle.osi_listing.specs.Digits.{octet_of}

-- a text begins with the digits of these octets, side by side, and others follow
abbrev pub BeginsWith : List ℕ → List ℕ → List ℕ → Type 0
BeginsWith text octets rest = (digits : List ℕ) × (text ≡ digits ++ rest) × (octets_from digits None ≡ Some octets)

-- octets have gained those that a text begins with, and others follow
abbrev pub ReadsRun : List ℕ → List ℕ → List ℕ → List ℕ → Type 0
ReadsRun text old new rest = (octets : List ℕ) × (new ≡ old ++ octets) × BeginsWith text octets rest

-- a text does not begin with two digits
abbrev pub BeginsNoOctet : List ℕ → Type 0
BeginsNoOctet [] = ⊤
BeginsNoOctet (c ∷ []) = ⊤
BeginsNoOctet (high ∷ low ∷ rest) = octet_of high low ≡ None

-- the value of a digit, or 255 for another character
abbrev pub value_or_255 : Option ℕ → ℕ
value_or_255 None = 255
value_or_255 (Some value) = value

abbrev pub values_of : List ℕ → List ℕ
values_of characters = map (λ c. value_or_255 (hex_digit_value c)) characters

abbrev pub greatest : List ℕ → ℕ
greatest [] = 0
greatest (v ∷ values) = max v (greatest values)

-- two values of digits are an octet
abbrev pub pairs_joined : List ℕ → List ℕ
pairs_joined [] = []
pairs_joined (v ∷ []) = []
pairs_joined (high ∷ low ∷ values) = (high * 16 + low) ∷ pairs_joined values
