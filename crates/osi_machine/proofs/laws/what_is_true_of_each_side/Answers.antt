use Rattle.osi_machine.proofs.invariant.each_step_keeps_one_side.{starts, run_kept}
use Rattle.osi_machine.proofs.laws.what_is_true_of_each_side.Goals as goal

pub returns-clause-begins : goal.returns-clause-begins
returns-clause-begins c = starts

pub returns-clause-kept : goal.returns-clause-kept
returns-clause-kept c = run_kept (assumption)
