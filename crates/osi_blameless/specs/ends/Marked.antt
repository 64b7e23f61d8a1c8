-- Units in order, each with the connection that it is of.
use Rattle.std.specs.Prelude.{◌≡◌, ℕ, ◌==◌, Bool, true, false, nat_lt, List, [], ◌∷◌, map, if◌then◌else◌}
use Rattle.std.specs.List.{AllByRecursion, flat_map}
use Rattle.osi_tpdu.specs.Value.{Value, acknowledge, confirm, data0, data2, disconnect, disconnected, error, request}

-- a unit, with the reference of the connection whose link gave or took it: 0 if no link did
abbrev pub Marked : Type 0
Marked = ℕ × Value

abbrev pub if_of : ℕ → Marked → List Value
if_of r m = if m.0 == r then m.1 ∷ [] else []

-- the units of one connection among these, in order
abbrev pub units_at : ℕ → List Marked → List Value
units_at r units = flat_map (if_of r) units

-- all of them
abbrev pub all_units : List Marked → List Value
all_units units = map (λ m. m.1) units

-- a DT or an AK: no link gives or takes another unit
abbrev pub is_of_link : Value → Bool
is_of_link (data0 last octets) = true
is_of_link (data2 destination number last octets) = true
is_of_link (acknowledge credit destination number) = true
is_of_link (request c) = false
is_of_link (confirm destination c) = false
is_of_link (disconnect destination source reason user) = false
is_of_link (disconnected destination source) = false
is_of_link (error destination cause) = false

-- the DTs and AKs among these units are of connections, and the others are of none
abbrev pub AreByLinks : List Marked → Type 0
AreByLinks units = AllByRecursion (λ m. is_of_link m.1 ≡ nat_lt 0 m.0) units
