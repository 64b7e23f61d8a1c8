use Rattle.std.proofs.Common.{◌↔◌, ◌-◌}
use Rattle.osi_witness.specs.Found.{Stays}
use Rattle.osi_witness.specs.Streams.{tsdus_of}
use Rattle.osi_witness.proofs.trails.stays.Given as goal

abbrev pub invariant-tsdus : goal.invariant-tsdus
invariant-tsdus l =
    Stays (tsdus_of l.heard) l.from l.standing (l.to - l.from) ↔ Stays (tsdus_of l.heard) l.number l.standing (l.to - l.number)
