use Rattle.osi_session.proofs.Vocabulary.{said_at, refl}
use Rattle.osi_session.proofs.tables.points_that_are_expected.{data_shows}
use Rattle.osi_session.proofs.sessions.Session.expected_data.Goals as goal

pub returns : goal.returns
returns c =
    let user = c.in_ok-user_data.user_data.now in
    data_shows user user (said_at c.args.tsdu.now) c.self.view_is c.is_some.ensures c.if-is_some.false
    c.in_ok-user_data.ensures.said (c.expects_data.ensures user c.if-not-expects_data.false) refl
