use Rattle.std.proofs.Common.{arith}
use Rattle.osi_judge.proofs.what_holds_of_a_result.{on_ok}
use Rattle.osi_judge.proofs.judge.Judge.settle.Goals as goal

pub returns-clause-holds : goal.returns-clause-holds
returns-clause-holds c s h = c.hand_over.ensures.holds s c.in_ok-pass_due.ensures.judged (c.pass_due.ensures.holds s h)

pub returns-clause-judged : goal.returns-clause-judged
returns-clause-judged c = grind (arith, on_ok)

pub returns-clause-settled : goal.returns-clause-settled
returns-clause-settled c = grind (arith, on_ok)

pub returns-clause-free : goal.returns-clause-free
returns-clause-free c h = grind arith
