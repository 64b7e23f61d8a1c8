use Rattle.std.proofs.Common.{arith}
use Rattle.osi_judge.proofs.what_holds_of_a_result.{if_ok}
use Rattle.osi_judge.proofs.proceedings.Proceedings.tell.Goals as goal

pub returns-in-Some-clause-ok : goal.returns-in-Some-clause-ok
returns-in-Some-clause-ok c at k h = grind arith

pub returns-in-None-clause-ok : goal.returns-in-None-clause-ok
returns-in-None-clause-ok c = grind (arith, if_ok)
