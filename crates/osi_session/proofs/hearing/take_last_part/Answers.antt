use Rattle.std.proofs.Common.{arith, option_copied}
use Rattle.osi_session.proofs.hearing.take_last_part.Goals as goal

pub returns-in-Ok : goal.returns-in-Ok
returns-in-Ok c = grind (arith, option_copied)
