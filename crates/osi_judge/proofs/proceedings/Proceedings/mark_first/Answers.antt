use Rattle.std.proofs.Common.{arith}
use Rattle.osi_judge.proofs.the_first_break_is_kept.{transport_told}
use Rattle.osi_judge.proofs.proceedings.Proceedings.mark_first.Goals as goal

pub returns-clause-holds : goal.returns-clause-holds
returns-clause-holds c k h = grind (arith, transport_told)
