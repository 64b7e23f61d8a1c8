use Rattle.osi_session.proofs.moves.the_moves_in_memory.{part_joins, part_refused}
use Rattle.osi_session.proofs.sessions.Session.join.Goals as goal

pub returns-in-Ok : goal.returns-in-Ok
returns-in-Ok c = part_joins c.shown_behind.result c.args.place c.args.user_data.now c.self.view_is c.requires c.in-Ok.ensures.ok
    c.shown_behind.ensures.shown c.shown_behind.ensures.joined c.behind.ensures

pub returns-in-Err : goal.returns-in-Err
returns-in-Err c = part_refused c.in-Err.error c.args.place c.args.user_data.now c.self.view_is c.requires c.in-Err.ensures.err
    c.in-Err.ensures.memory
