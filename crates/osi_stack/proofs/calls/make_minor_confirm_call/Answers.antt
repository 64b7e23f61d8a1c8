use Rattle.osi_stack.proofs.Vocabulary.{MinorConfirm, limit_of, arith, refl}
use Rattle.osi_stack.proofs.called.what_a_call_sends.{call_handed, call_refused}
use Rattle.osi_stack.proofs.calls.make_minor_confirm_call.Goals as goal

pub returns-clause-carrier : goal.returns-clause-carrier
returns-clause-carrier c = grind (arith, call_handed)

pub returns-clause-refused : goal.returns-clause-refused
returns-clause-refused c =
    call_refused c.send_point.result c.args.session.now (MinorConfirm c.args.number c.args.user_data.now) c.in_ok-plan.plan.sent
    c.in_ok-plan.plan.sent c.args.reference (limit_of c.args.session.now.state)
    c.args.carrier.now.state c.in_ok-plan.ensures.planned.accepted c.in_ok-plan.ensures.planned.sent refl c.send_point.ensures.refused
