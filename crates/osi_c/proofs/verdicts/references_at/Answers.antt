use Rattle.std.proofs.Common.{arith}
use Rattle.osi_judge.specs.Connections.{numbered}
use Rattle.osi_c.proofs.a_note_is_of_what_passed.{names_held, names_missing}
use Rattle.osi_c.proofs.verdicts.references_at.Goals as goal

pub returns-in-Some-Placed : goal.returns-in-Some-Placed
returns-in-Some-Placed c = grind (arith, names_held)

pub returns-in-Some-Replaced : goal.returns-in-Some-Replaced
returns-in-Some-Replaced c = grind (arith, names_held)

pub returns-in-None : goal.returns-in-None
returns-in-None c = λ s h k. names_missing (numbered c.args.number s.course.sessions) (c.in-None.ensures.held s h k.judged)
