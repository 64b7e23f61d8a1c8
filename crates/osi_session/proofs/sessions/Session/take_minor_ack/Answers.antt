use Rattle.osi_session.proofs.Vocabulary.{MIA, Meaning, MinorConfirmed, most_whole, said_at, [], None}
use Rattle.osi_message.specs.declared.plain.PlainUnit.TheVariants as plain
use Rattle.osi_session.proofs.tables.points_that_are_expected.{plain_numbered, point_leaves, unit_shows}
use Rattle.osi_session.proofs.sessions.Session.take_minor_ack.Goals as goal

pub invariant_of-self : goal.invariant_of-self
unfolding most_whole
invariant_of-self c =
    let n = c.in_ok-number.number in
    let u : Meaning = MIA n.number [] in (
      point_leaves (record { state = c.self.inside.state; waiting = None; joined = c.self.inside.joined }) c.in-Some.numbers
          (MinorConfirmed n.number []) u (plain_numbered (plain.MinorAck n)) c.is_some.ensures c.if-is_some.false c.in-Some.ensures
          c.self.invariant.0 c.self.invariant.3 c.self.invariant.4,
      c.self.invariant.1,
      c.self.invariant.2,
      c.self.invariant.3,
      c.self.invariant.4,
      c.self.invariant.5,
    )

pub returns-clause-shown : goal.returns-clause-shown
returns-clause-shown c =
    let n = c.in_ok-number.number in
    unit_shows (MIA n.number []) c.in-Some.numbers (MinorConfirmed n.number []) (said_at c.args.tsdu.now) c.self.view_is
    c.is_some.ensures c.if-is_some.false
    c.in_ok-number.ensures.said c.in-Some.ensures
