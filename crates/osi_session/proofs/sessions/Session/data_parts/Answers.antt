use Rattle.osi_session.proofs.Vocabulary.{Data, leb-true, arith}
use Rattle.osi_session.proofs.tables.what_an_accepted_call_does.{accepts, rests_by}
use Rattle.osi_session.proofs.tables.what_an_accepted_call_has_passed.{passed}
use Rattle.osi_session.proofs.tables.what_the_table_of_calls_answers.{allowed_named}
use Rattle.osi_session.proofs.sessions.Session.data_parts.Goals as goal

pub lent_within-requires : goal.lent_within-requires
lent_within-requires c = grind (arith, leb-true, passed)

pub returns-in-Ok : goal.returns-in-Ok
returns-in-Ok c =
    let a = accepts c.in-Ok.ensures.ok c.self.view_is c.size_limit.ensures c.self.invariant.0 tt in
    grind (arith, rests_by)

pub returns-in-Err-clause-named : goal.returns-in-Err-clause-named
returns-in-Err-clause-named c = allowed_named c.self.inside.state (Data c.args.user_data.now) c.in-Err.error c.in-Err.ensures.err
