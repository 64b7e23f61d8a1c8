use Rattle.osi_session.specs.declared.plans.SentPoint.TheVariants as point
use Rattle.osi_session.proofs.Vocabulary.{eq-eqb, words_sent, user_data_of}
use Rattle.osi_session.proofs.tables.what_the_table_of_calls_answers.{sent_short}
use Rattle.osi_session.proofs.tables.points_that_are_expected.{point_passes, point_planned}
use Rattle.osi_session.proofs.sessions.Session.plan_minor.Goals as goal

pub minor_point-requires : goal.minor_point-requires
unfolding user_data_of
minor_point-requires c = sent_short _ _ _ c.in_ok-number.ensures.ok

pub returns-in-Ok-clause-planned : goal.returns-in-Ok-clause-planned
unfolding words_sent
returns-in-Ok-clause-planned c =
    point_planned (record { sent = c.in-Ok.sent; point = point.Minor c.in_ok-number.number }) c.args.confirm c.args.user_data.now
    c.self.view_is (eq-eqb _ _ c.in_ok-number.ensures.number) c.in_ok-number.ensures.ok c.self.invariant.0 c.in-Ok.ensures.written

pub returns-in-Err-clause-refused : goal.returns-in-Err-clause-refused
returns-in-Err-clause-refused c = point_passes _ c.self.view_is c.in_ok-number.ensures.ok
