use Rattle.std.proofs.Common.{◌≤◌, ◌-◌}
use Rattle.osi_witness.specs.Steps.{GoesTo, heard_for}
use Rattle.osi_witness.specs.Trails.{Listens}
use Rattle.osi_witness.proofs.trails.Goal.step_from.Given as goal

abbrev pub invariant-takes : goal.invariant-takes
invariant-takes l = record {
  up : l.from.taken ≤ l.taken;
  listened : Listens (heard_for l.self) l.from.taken l.from.standing (l.taken - l.from.taken) l.standing;
  goes : GoesTo l.self l.from.taken l.from.standing → GoesTo l.self l.taken l.standing;
}
