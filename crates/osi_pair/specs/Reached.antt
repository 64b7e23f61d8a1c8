-- Two ends that events have made of new ones.
use Rattle.std.specs.Prelude.{List}
use Rattle.osi_machine.specs.Machine.{Step}
use Rattle.osi_tpkt.specs.Packet.{IsPartial}
use Rattle.osi_pair.specs.Ends.{TwoEnds, end_at}
use Rattle.osi_pair.specs.Standing.{StandsAt}
use Rattle.osi_pair.specs.declared.sides.Side.{Side}

-- between two events each end holds less than a packet
abbrev pub HoldLess : TwoEnds → Type 0
HoldLess p = (side : Side) → IsPartial (end_at side p).held.octets

-- They match some list of steps of the machine, and hold less than a packet.
pub record IsReached (p : TwoEnds) : Type 0 where
  pub steps : List Step
  pub stands : StandsAt p steps
  pub held : HoldLess p
