use Rattle.std.proofs.Common.{arith}
use Rattle.osi_blameless.proofs.accord.Vocabulary.{said_again}
use Rattle.osi_blameless.proofs.accord.a_run_of_calls_and_answers_is_one_of_the_tables.{said_is, whole_run, without_liberties}
use Rattle.osi_blameless.proofs.laws.accord.calls_and_answers_are_a_run_of_the_whole_machine.Goals as goal

pub returns : goal.returns
returns c = grind (arith, said_again, said_is, without_liberties, whole_run (grind (arith, said_again)))
