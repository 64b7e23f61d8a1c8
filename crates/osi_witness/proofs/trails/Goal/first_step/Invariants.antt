use Rattle.std.proofs.Common.{take}
use Rattle.osi_side.specs.declared.members.Member.{Member}
use Rattle.osi_side.specs.Onward.{IsAmong}
use Rattle.osi_witness.specs.Steps.{GoesTo}
use Rattle.osi_witness.proofs.trails.Goal.first_step.Given as goal

abbrev pub invariant-members : goal.invariant-members
invariant-members l = (x : Member) → IsAmong x (take l.member-index l.members) → GoesTo l.self x.taken x.standing → ⊥
