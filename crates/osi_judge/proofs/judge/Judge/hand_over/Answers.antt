use Rattle.std.proofs.Common.{arith}
use Rattle.osi_judge.proofs.each_session_has_heard_all.{still_holds}
use Rattle.osi_judge.proofs.judge.Judge.hand_over.Goals as goal

pub returns-clause-holds : goal.returns-clause-holds
returns-clause-holds c s none h = grind (arith, still_holds)
