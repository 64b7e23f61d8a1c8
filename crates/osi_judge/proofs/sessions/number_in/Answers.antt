use Rattle.std.proofs.Common.{arith}
use Rattle.osi_judge.proofs.each_connection_is_kept.{number_there, number_nowhere}
use Rattle.osi_judge.proofs.sessions.number_in.Goals as goal

pub returns-then-place-live : goal.returns-then-place-live
returns-then-place-live c js h = number_nowhere c.args.live.now js c.args.place (omega arith) h

pub returns : goal.returns
returns c js h = number_there c.args.live.now js c.args.place c.index-live-place.result (omega arith) h
