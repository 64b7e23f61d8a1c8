use Rattle.std.proofs.Common.{arith, option_copied}
use Rattle.osi_session.proofs.tsdu.the_effect_of_a_word.{message_is, message_takes}
use Rattle.osi_session.proofs.hearing.take_says.Goals as goal

pub returns-in-Ok : goal.returns-in-Ok
returns-in-Ok c = grind (arith, option_copied, message_is)

pub returns-in-Err : goal.returns-in-Err
returns-in-Err c = grind (arith, option_copied, message_takes)
