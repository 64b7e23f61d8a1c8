use Rattle.std.proofs.Common.{arith}
use Rattle.osi_judge.proofs.Vocabulary.{slice_get}
use Rattle.osi_judge.proofs.each_connection_is_kept.{one_more, room_placed}
use Rattle.osi_judge.proofs.sessions.Sessions.ask_new.Goals as goal

pub returns-clause-ok : goal.returns-clause-ok
returns-clause-ok c s j place h hj le =
    let r = one_more c.args.self.now.live.items c.args.self.now.done s place c.args.connection j le hj h.live h.done in
    grind (arith, room_placed place j s (slice_get s.live place) c.args.self.now.room h.room)
