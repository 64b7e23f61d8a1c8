use Rattle.osi_session.proofs.Vocabulary.{Listener, came, react, said_by_units, taken, units_of, unread, ap, subst, Gives, tsdu_at}
use Rattle.osi_session.proofs.moves.the_move_of_each_input.{came_fault, came_words}
use Rattle.osi_session.proofs.moves.the_moves_in_memory.{takes_as}
use Rattle.osi_session.proofs.sessions.Session.take_unexpected.Goals as goal

pub returns-in-Ok : goal.returns-in-Ok
returns-in-Ok c =
    let l : Listener = c.args.self.now in
    let read = subst (λ r. Gives units_of r (tsdu_at c.args.tsdu.now)) c.in-Ok.is c.read_group-read.ensures.exact in
    takes_as c.take.result (react l (taken (said_by_units (units_of c.in-Ok.group)))) (react l (came c.args.tsdu.now)) l c.take.new.self
    (ap (react l) (came_words c.args.tsdu.now (units_of c.in-Ok.group) read)) c.take.ensures

pub returns-in-Err : goal.returns-in-Err
returns-in-Err c =
    let l : Listener = c.args.self.now in
    let read = subst (λ r. Gives units_of r (tsdu_at c.args.tsdu.now)) c.in-Err.is c.read_group-read.ensures.exact in
    takes_as c.take_bad.result (react l (unread c.in-Err.fault)) (react l (came c.args.tsdu.now)) l c.take_bad.new.self
    (ap (react l) (came_fault c.args.tsdu.now c.in-Err.fault read)) c.take_bad.ensures
