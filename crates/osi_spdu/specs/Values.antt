-- The values that each parameter may have, and their written form.
use Rattle.std.specs.Prelude.{ℕ, ◌+◌, ◌-◌, ◌*◌, ◌/◌, ◌%◌, ◌==◌, ◌&&◌, ◌||◌, not, Bool, true, false, List, [], ◌∷◌, length, nat_lt, nat_le, Option, Some, None, if◌then◌else◌, option_map}
use Rattle.std.specs.List.{list_all}
use Rattle.std.specs.Int.RustNames.{bit_and}
use Rattle.osi_spdu.specs.declared.codes.Code.{Code}
use Rattle.osi_spdu.specs.declared.kinds.Kind.{Kind}
use Rattle.osi_spdu.specs.declared.kinds.Kind.TheVariants.{DataTransfer}
use Rattle.osi_spdu.specs.Codes.{is_same}
use Rattle.osi_spdu.specs.declared.codes.Code.TheVariants.{ConnectionIdentifier, ConnectAcceptItem, CalledReference, CallingReference, CommonReference, AdditionalReference, SyncType, TokenItem, TransportDisconnect, ProtocolOptions, UserRequirements, TsduMaximumSize, Version, InitialNumber, Enclosure, TokenSetting, ResyncType, Number, Reflect, Reason, CallingSelector, CalledSelector, UserData, ExtendedUserData}

-- octets that pass a test, unchanged
abbrev pub kept_if : Bool → List ℕ → Option (List ℕ)
kept_if good value = if good then Some value else None

-- one octet that passes a test, written by a function of it
abbrev pub octet_if : (ℕ → Bool) → (ℕ → ℕ) → List ℕ → Option (List ℕ)
octet_if good form [] = None
octet_if good form (b ∷ []) = if good b then Some (form b ∷ []) else None
octet_if good form (b ∷ c ∷ rest) = None

abbrev pub any_octet : ℕ → Bool
any_octet b = true

abbrev pub as_it_is : ℕ → ℕ
as_it_is b = b

-- the tokens have the bits 01, 04, 10 and 40
abbrev pub token_bits : ℕ → ℕ
token_bits b = bit_and b 85

-- four pairs of bits from the low end, none of which is 3
abbrev pub is_setting : ℕ → Bool
is_setting b = not (b % 4 == 3) && not (b / 4 % 4 == 3) && not (b / 16 % 4 == 3) && not (b / 64 == 3)

abbrev pub is_digit : ℕ → Bool
is_digit d = nat_le 48 d && nat_lt d 58

-- digits without leading zeros
unfoldable pub significant : List ℕ → List ℕ
significant [] = []
significant (d ∷ []) = d ∷ []
significant (d ∷ e ∷ digits) = if d == 48 then significant (e ∷ digits) else d ∷ e ∷ digits

-- the number that the digits give, read after those of n
unfoldable pub decimal_from : ℕ → List ℕ → ℕ
decimal_from n [] = n
decimal_from n (d ∷ digits) = decimal_from (10 * n + (d - 48)) digits

abbrev pub decimal : List ℕ → ℕ
decimal digits = decimal_from 0 digits

-- the digits of a number below 1,000,000
abbrev pub six_digits : ℕ → List ℕ
six_digits n = (n / 100000 % 10 + 48) ∷ (n / 10000 % 10 + 48) ∷ (n / 1000 % 10 + 48) ∷ (n / 100 % 10 + 48) ∷ (n / 10 % 10 + 48) ∷ (n % 10 + 48) ∷ []

unfoldable pub digits_of : ℕ → List ℕ
digits_of n = significant (six_digits n)

abbrev pub is_numeral : List ℕ → Bool
is_numeral digits = nat_lt 0 (length digits) && nat_le (length digits) 6 && list_all is_digit digits

-- the number of one to six digits
abbrev pub numeral : List ℕ → Option ℕ
numeral digits = if is_numeral digits then Some (decimal digits) else None

-- the largest TSDU that a user gives for one direction: 0 for no limit, or 64 to 65,535 octets
abbrev pub is_size : ℕ → Bool
is_size n = (n == 0) || (nat_le 64 n && nat_le n 65535)

-- The value in its written form, or `None` if it is not allowed. The value of a group is empty.
unfoldable pub canonical : Code → List ℕ → Option (List ℕ)
canonical ConnectionIdentifier value = Some []
canonical ConnectAcceptItem value = Some []
canonical CalledReference value = Some value
canonical CallingReference value = Some value
canonical CommonReference value = Some value
canonical AdditionalReference value = Some value
canonical SyncType value = octet_if any_octet (λ b. b % 2) value
canonical TokenItem value = octet_if any_octet token_bits value
canonical TransportDisconnect value = octet_if any_octet as_it_is value
canonical ProtocolOptions value = octet_if any_octet as_it_is value
canonical UserRequirements value = kept_if (length value == 2) value
canonical TsduMaximumSize value = kept_if (length value == 4) value
canonical Version value = octet_if any_octet as_it_is value
canonical InitialNumber value = option_map digits_of (numeral value)
canonical Enclosure value = octet_if (λ b. nat_lt b 4) as_it_is value
canonical TokenSetting value = octet_if is_setting as_it_is value
canonical ResyncType value = octet_if (λ b. nat_lt b 3) as_it_is value
canonical Number value = option_map digits_of (numeral value)
canonical Reflect value = Some value
canonical Reason value = kept_if (nat_lt 0 (length value)) value
canonical CallingSelector value = kept_if (nat_le (length value) 16) value
canonical CalledSelector value = kept_if (nat_le (length value) 16) value
canonical UserData value = Some value
canonical ExtendedUserData value = Some value

-- only a DT may have a part of user data
abbrev pub may_have_parts : Kind → Bool
may_have_parts DataTransfer = true
may_have_parts _ = false

-- user data begins and ends here: 03
abbrev pub is_three : List ℕ → Bool
is_three [] = false
is_three (b ∷ octets) = b == 3

-- if a unit may not have a part of user data, its enclosure says that the data is whole
unfoldable pub may_enclose : Kind → Code → List ℕ → Bool
may_enclose kind c value = not (is_same c Enclosure) || (may_have_parts kind || is_three value)

-- the value in its written form in a unit of this kind, or `None` if it is not allowed there
unfoldable pub canonical_in : Kind → Code → List ℕ → Option (List ℕ)
canonical_in kind c value = if may_enclose kind c value then canonical c value else None
