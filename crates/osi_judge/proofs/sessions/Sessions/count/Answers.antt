use Rattle.std.proofs.Common.{arith}
use Rattle.osi_judge.proofs.each_connection_is_kept.{all_length, past_length}
use Rattle.osi_judge.proofs.sessions.Sessions.count.Goals as goal

pub returns : goal.returns
returns c s h = grind (arith, all_length, past_length)
