use Rattle.osi_session.proofs.Vocabulary.{arith}
use Rattle.osi_session.proofs.tables.what_an_accepted_call_does.{accepts, rests_by}
use Rattle.osi_session.proofs.sessions.Session.call_bounded_data.Goals as goal

pub returns-in-Ok : goal.returns-in-Ok
returns-in-Ok c =
    let a = accepts c.in_ok-allow_data.ensures.ok c.self.view_is c.size_limit.ensures c.self.invariant.0 tt in
    grind (arith, rests_by)

pub returns-in-Err-clause-refused : goal.returns-in-Err-clause-refused
returns-in-Err-clause-refused c = (accepts c.in_ok-allow_data.ensures.ok c.self.view_is c.size_limit.ensures c.self.invariant.0 tt).passes
