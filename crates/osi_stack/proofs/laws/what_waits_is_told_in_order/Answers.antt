use Rattle.std.proofs.Common.{arith}
use Rattle.osi_stack.proofs.each_line.the_lowest_is_given_first.{lowest_first}
use Rattle.osi_stack.proofs.carried.what_a_move_leaves.{first_of_all, kept_first, none_waiting, used_live}
use Rattle.osi_stack.proofs.laws.what_waits_is_told_in_order.Goals as goal

pub returns : goal.returns
returns c = grind (arith, first_of_all, lowest_first, kept_first, none_waiting, used_live)
