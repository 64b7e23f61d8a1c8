use Rattle.osi_session.proofs.Vocabulary.{said_at, react, arith, ◌≡◌, ap, ℕ, List, drop}
use Rattle.osi_session.specs.declared.indications.Indication.TheVariants as indication
use Rattle.osi_session.proofs.tables.points_that_are_expected.{data_shows}
use Rattle.osi_session.proofs.sessions.Session.show_data.Goals as goal

pub returns : goal.returns
returns c =
    let tsdu = c.as_slice.result.now in
    let user = c.in-Some._user_data.now in
    let behind : drop 4 tsdu ≡ user = ap (λ (o : List ℕ). drop 4 o) c.in-Some.ensures.written in
    let shows = data_shows user (drop 4 tsdu) (said_at tsdu) c.self.view_is c.is_some.ensures c.if-is_some.false c.in-Some.ensures.said
    (c.expects_data.ensures user c.if-not-expects_data.false) behind in
    grind (arith, react)
