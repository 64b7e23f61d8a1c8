use Rattle.osi_side.proofs.Vocabulary.{length, subst, units_of, Gives, tsdu_at}
use Rattle.osi_side.proofs.told.the_nearest_of_all_sessions_is_told.{breaks_as, breaks_unread}
use Rattle.osi_side.proofs.rules.break_at.Goals as goal

pub returns-in-Ok : goal.returns-in-Ok
returns-in-Ok c =
    let read = subst (λ r. Gives units_of r (tsdu_at c.args.tsdu.now)) c.in-Ok.is c.read_group-read.ensures.exact in
    breaks_as c.break_in.result c.args.heard.now (length c.args.tsdu.now) c.args.before c.args.members.now (tsdu_at c.args.tsdu.now)
    (units_of c.in-Ok.group) read c.break_in.ensures

pub returns-in-Err : goal.returns-in-Err
returns-in-Err c =
    let read = subst (λ r. Gives units_of r (tsdu_at c.args.tsdu.now)) c.in-Err.is c.read_group-read.ensures.exact in
    breaks_unread c.nearest.result c.args.heard.now (length c.args.tsdu.now) c.args.before c.args.members.now (tsdu_at c.args.tsdu.now)
    c.in-Err.fault read c.nearest.ensures
