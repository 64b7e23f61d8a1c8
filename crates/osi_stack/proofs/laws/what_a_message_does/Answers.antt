use Rattle.std.proofs.Common.{arith}
use Rattle.osi_stack.proofs.carried.what_a_move_leaves.{arrives, acts_becomes}
use Rattle.osi_stack.proofs.laws.what_a_message_does.Goals as goal

pub returns : goal.returns
returns c = search (arith, arrives, acts_becomes)
