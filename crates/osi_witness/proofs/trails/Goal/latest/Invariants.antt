use Rattle.std.proofs.Common.{◌-◌}
use Rattle.osi_witness.specs.Backwards.{IsLatest}
use Rattle.osi_witness.proofs.trails.Goal.latest.Given as goal

abbrev pub invariant-takes : goal.invariant-takes
invariant-takes l = IsLatest l.self l.most l.fn.step l.last

abbrev pub decreases-takes : goal.decreases-takes
decreases-takes l = l.top - l.last.taken
