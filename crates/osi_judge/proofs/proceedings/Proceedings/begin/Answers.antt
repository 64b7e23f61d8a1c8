use Rattle.std.proofs.Common.{arith}
use Rattle.osi_judge.proofs.no_break_was_before_the_first.{begun_earliest}
use Rattle.osi_judge.proofs.proceedings.Proceedings.begin.Goals as goal

pub returns-clause-holds : goal.returns-clause-holds
returns-clause-holds c k h = grind (arith, begun_earliest)
