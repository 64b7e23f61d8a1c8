use Rattle.osi_stack.proofs.carried.what_a_move_leaves.{are_lost}
use Rattle.osi_stack.proofs.laws.what_an_end_shows.Goals as goal

pub returns : goal.returns
returns c = are_lost
