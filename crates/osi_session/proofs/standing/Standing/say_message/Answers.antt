use Rattle.osi_session.proofs.Vocabulary.{meant_by, arith, ap, Seen}
use Rattle.osi_session.proofs.sent.what_a_side_may_send.{breaks_none, message_sound, not_said, said_by_message}
use Rattle.osi_session.proofs.standing.Standing.say_message.Goals as goal

pub goes-requires : goal.goes-requires
goes-requires c = message_sound c.self.inside.state c.args.message.now c.in_ok-next.next c.in_ok-next.ensures.left c.self.invariant

pub returns-in_err-next-clause-left : goal.returns-in_err-next-clause-left
returns-in_err-next-clause-left c = grind (arith, not_said)

pub returns-clause-left : goal.returns-clause-left
returns-clause-left c =
    said_by_message c.args.self.now c.goes.result c.self.inside.state c.in_ok-next.next (meant_by c.args.message.now) c.has_no_effect.result
    c.is_misplaced.result
    (ap (λ (s : Seen). s.state) c.self.view_is) c.has_no_effect.ensures c.if-has_no_effect.false c.is_misplaced.ensures
    c.if-is_misplaced.false c.in_ok-next.ensures.left c.goes.ensures

pub returns-clause-rule : goal.returns-clause-rule
returns-clause-rule c = grind (arith, breaks_none)
