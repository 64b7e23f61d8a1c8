use Rattle.std.proofs.Common.{arith}
use Rattle.osi_message.specs.Written.{spelled}
use Rattle.osi_message.proofs.messages.Message.group.Goals as goal

pub returns-then-is_second-clause-units : goal.returns-then-is_second-clause-units
unfolding spelled
returns-then-is_second-clause-units c = grind arith

pub returns-else-is_second-clause-units : goal.returns-else-is_second-clause-units
unfolding spelled
returns-else-is_second-clause-units c = grind arith
