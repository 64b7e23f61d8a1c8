use Rattle.std.proofs.Common.{arith}
use Rattle.osi_between.proofs.between.what_is_reported_over_a_list_of_moves.{all_stay, told_from, told_fresh}
use Rattle.osi_between.proofs.between.every_move_keeps_the_invariant.{begins}
use Rattle.osi_between.proofs.laws.what_no_list_of_calls_can_do.Goals as goal

pub returns : goal.returns
returns c = record {
  stays = λ caller called moves may. search (arith, all_stay, begins caller called);
  goes_on = all_stay;
  told = told_fresh;
  told_on = λ terms moves both b from n. told_from terms from n moves both b;
}
