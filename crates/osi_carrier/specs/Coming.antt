-- The units in flight from a carrier's peer, if the octets between them are read as packets.
use Rattle.std.specs.Prelude.{◌≡◌, ◌≤◌, ℕ, List, ◌++◌, length}
use Rattle.std.specs.List.{AllByRecursion}
use Rattle.osi_tpdu.specs.Value.{Value}
use Rattle.osi_tpdu.specs.Writing.{written, Fits}
use Rattle.osi_carrier.specs.State.{packets}

-- a unit that fits a packet of its own
pub record IsSendable (unit : Value) : Type 0 where
  pub fits : Fits unit
  pub most : length (written unit) ≤ 65531

-- what a carrier holds of the unfinished packet, followed by what its peer has still to hand over, are the packets of
-- these units
pub record AreComing (held outgoing : List ℕ) (units : List Value) : Type 0 where
  pub octets : held ++ outgoing ≡ packets units
  pub sendable : AllByRecursion IsSendable units
