use Rattle.std.proofs.Common.{arith}
use Rattle.osi_blameless.proofs.accord.Vocabulary.{said_again}
use Rattle.osi_blameless.proofs.accord.a_run_without_liberties_is_one_of_the_machine.{machine_run}
use Rattle.osi_blameless.proofs.laws.accord.without_liberties_it_is_a_run_of_the_machine.Goals as goal

pub returns : goal.returns
returns c = grind (arith, said_again, machine_run (grind (arith, said_again)))
