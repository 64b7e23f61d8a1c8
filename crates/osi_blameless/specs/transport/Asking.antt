-- The CRs of a calling end: those that its carrier writes, and those that have passed.
use Rattle.std.specs.Prelude.{ℕ, ◌+◌, List, [], ◌∷◌, ◌++◌}
use Rattle.std.specs.List.{flat_map}
use Rattle.osi_tpdu.specs.Value.{Value, request}
use Rattle.osi_carrier.specs.Runs.{Act, connects, does, packet as arrives, user}
use Rattle.osi_carrier.specs.State.{State}
use Rattle.osi_rules.specs.declared.directions.Direction.TheVariants.{Left, Right}
use Rattle.osi_blameless.specs.transport.Naming.{Passing, packet, rubbish, unit}

-- the reference that a CR gives
abbrev pub asked_in : Value → List ℕ
asked_in (request c) = c.source ∷ []
asked_in v = []

abbrev pub asked_as : Passing → List ℕ
asked_as (packet d) = []
asked_as (unit Left v) = asked_in v
asked_as (unit Right v) = []
asked_as (rubbish d) = []

-- the references of the CRs of left that have passed, in order
abbrev pub all_asked : List Passing → List ℕ
all_asked passings = flat_map asked_as passings

-- a call for a connection writes a CR with the next reference
abbrev pub asks_with : Act → State → List ℕ
asks_with (arrives octets) s = []
asks_with (user (connects calling called)) s = (s.given + 1) ∷ []
asks_with (user call) s = []

-- the references of the CRs that a carrier writes, in order
abbrev pub all_written : List Act → State → List ℕ
all_written [] s = []
all_written (act ∷ acts) s = asks_with act s ++ all_written acts (does act s)
