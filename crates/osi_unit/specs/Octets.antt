-- Lists of octets.
use Rattle.std.specs.Prelude.{ℕ, ◌<◌, List, slice_index}

-- each number of the list is an octet
abbrev pub IsOctets : List ℕ → Type 0
IsOctets s = (i : ℕ) → slice_index s i < 256
