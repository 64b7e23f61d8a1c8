-- What passes on a byte connection, and which of its connections a reference names.
use Rattle.std.specs.Prelude.{◌≡◌, ℕ, Bool, true, List, [], ◌∷◌, Some, slice_get}
use Rattle.osi_tpdu.specs.Value.{Value}
use Rattle.osi_rules.specs.declared.connections.Connection.{Connection}
use Rattle.osi_rules.specs.declared.directions.Direction.{Direction}
use Rattle.osi_rules.specs.Traffic.{State, packet_begins, refused, takes}

-- a packet of a side begins, a unit of it passes, or what passes is no packet or no unit
pub data Passing : Type 0 where
  packet : Direction → Passing
  unit : Direction → Value → Passing
  rubbish : Direction → Passing

abbrev pub passes : Passing → State → State
passes (packet d) s = packet_begins d s
passes (unit d v) s = (takes d v s).state
passes (rubbish d) s = refused d s

-- one after the other
abbrev pub all_passed : List Passing → State → State
all_passed [] s = s
all_passed (p ∷ ps) s = all_passed ps (passes p s)

-- this holds of one connection at most, of those that are judged
abbrev pub HoldsOfOne : (Connection → Bool) → List Connection → Type 0
HoldsOfOne f cs = (i : ℕ) (j : ℕ) (c : Connection) (e : Connection) → slice_get cs i ≡ Some c → slice_get cs j ≡ Some e →
    c.is_judged ≡ true → e.is_judged ≡ true → f c ≡ true → f e ≡ true → i ≡ j
