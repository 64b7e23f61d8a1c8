use Rattle.osi_stack.proofs.carried.what_a_move_leaves.{says_is}
use Rattle.osi_stack.proofs.laws.what_a_call_says.Goals as goal

pub returns : goal.returns
returns c = says_is
