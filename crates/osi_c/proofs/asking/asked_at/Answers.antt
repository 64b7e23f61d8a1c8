use Rattle.std.proofs.Common.{arith}
use Rattle.osi_c.proofs.what_is_asked_of_a_judge.{same_settled}
use Rattle.osi_c.proofs.asking.asked_at.Goals as goal

pub returns-then-not-is_numbered : goal.returns-then-not-is_numbered
returns-then-not-is_numbered c = grind (arith, same_settled)

pub returns : goal.returns
returns c = grind (arith, same_settled)
