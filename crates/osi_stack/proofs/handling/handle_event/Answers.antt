use Rattle.osi_stack.proofs.Vocabulary.{answers_by, unwrap_or, [], answers, limit_for, react, event_input, ◌≡◌, arith, rules}
use Rattle.osi_stack.proofs.called.tsdus_that_are_handed_together.{answer_heard}
use Rattle.osi_stack.proofs.handling.handle_event.Goals.{In_ok-first}
use Rattle.osi_stack.proofs.handling.handle_event.Goals as goal

-- what is handed over for the session
handed_over : (c : In_ok-first) → answers_by c.in_ok-first.field-0.closes c.args.reference (unwrap_or c.in_ok-first.field-0.reply [])
    c.args.carrier.now.state
    ≡ answers c.args.reference (limit_for c.args.session.now (event_input c.args.event.now))
    (react c.args.session.now (event_input c.args.event.now)) c.args.carrier.now.state
handed_over c = search (arith, rules, answer_heard)

pub returns-clause-carrier : goal.returns-clause-carrier
returns-clause-carrier c = grind (arith, handed_over (goal.at.returns-clause-carrier c).In_ok-first)

pub returns-in_default-clause-carrier : goal.returns-in_default-clause-carrier
returns-in_default-clause-carrier c = grind (arith, handed_over (goal.at.returns-in_default-clause-carrier c).In_ok-first)
