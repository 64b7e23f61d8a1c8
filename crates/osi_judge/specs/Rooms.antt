-- How much may be kept of a connection.
use Rattle.std.specs.Prelude.{ℕ, ◌+◌, nat_le, Bool, true, false}
use Rattle.osi_judge.specs.declared.rooms.Room.{Room}
use Rattle.osi_judge.specs.declared.rooms.Room.TheVariants.{All, Octets, Over}

-- a DT counts the octets of its user data, and 48 more
abbrev pub counted : (length : ℕ) → ℕ
counted length = length + 48

-- whether there is room for a DT with so much user data, beside so much that is kept
abbrev pub fits : Room → (kept length : ℕ) → Bool
fits All kept length = true
fits (Octets most) kept length = nat_le (kept + counted length) most
fits Over kept length = false

-- there was no room for a DT
abbrev pub is_over : Room → Bool
is_over All = false
is_over (Octets most) = false
is_over Over = true
