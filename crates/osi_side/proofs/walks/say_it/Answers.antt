use Rattle.std.proofs.Common.{arith}
use Rattle.osi_side.proofs.kept.a_walk_keeps_who_sends_on_the_way.{said_not, said_covered, said_anew}
use Rattle.osi_side.proofs.kept.a_walk_to_a_restart_is_one_function.{unsaid}
use Rattle.osi_side.proofs.walks.say_it.Goals as goal

pub returns-in_default-clause-value : goal.returns-in_default-clause-value
returns-in_default-clause-value c = grind (arith, said_not, unsaid)

pub returns-then-is_covered-clause-value : goal.returns-then-is_covered-clause-value
returns-then-is_covered-clause-value c = grind (arith, said_covered)

pub returns-clause-value : goal.returns-clause-value
returns-clause-value c = grind (arith, said_anew)

pub returns-clause-says : goal.returns-clause-says
returns-clause-says c = λ us later. search (arith, c.in_ok-add.ensures.explained us later)
