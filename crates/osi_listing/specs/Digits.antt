-- Two hexadecimal digits of an octet.
use Rattle.std.specs.Prelude.{ℕ, ◌+◌, ◌*◌, Option, Some, None}
use Rattle.hex.specs.Hex.{hex_digit_value}

-- the octet of two digits, by their values
abbrev pub octet_by : Option ℕ → Option ℕ → Option ℕ
octet_by None low = None
octet_by (Some high) None = None
octet_by (Some high) (Some low) = Some (high * 16 + low)

-- the octet of two characters, if both are digits
abbrev pub octet_of : ℕ → ℕ → Option ℕ
octet_of high low = octet_by (hex_digit_value high) (hex_digit_value low)

-- the value of a digit, or 65,536 for another character
abbrev pub value_or_no : Option ℕ → ℕ
value_or_no None = 65536
value_or_no (Some value) = value
