-- The state of a connection at an end.
use Rattle.std.specs.Prelude.{ℕ, Option, None, nat_lt, if◌then◌else◌}
use Rattle.osi_carrier.specs.Rows.{value_at}
use Rattle.osi_carrier.specs.State.{Connection, State}

-- the place of a reference at a carrier: not given yet; or given, with this live connection or none
pub data Place : Type 0 where
  never : Place
  was_given : Option Connection → Place

abbrev pub place_at : ℕ → State → Place
place_at n s = if nat_lt s.given n then never else was_given (value_at n s.live)

abbrev pub connection_in : Place → Option Connection
connection_in never = None
connection_in (was_given connection) = connection
