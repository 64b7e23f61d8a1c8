use Rattle.std.proofs.Common.{arith, option_copied}
use Rattle.osi_session.proofs.tsdu.the_effect_of_a_word.{early_takes}
use Rattle.osi_session.proofs.hearing.take_early_part.Goals as goal

pub returns-in-Ok : goal.returns-in-Ok
returns-in-Ok c = grind (arith, option_copied)

pub returns-in-Err : goal.returns-in-Err
returns-in-Err c = early_takes c.args.state.now (option_copied c.args.joined) c.args.user_data.now c.requires c.in-Err.ensures.memory
