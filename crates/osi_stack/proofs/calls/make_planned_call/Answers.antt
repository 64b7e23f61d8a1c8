use Rattle.osi_stack.proofs.Vocabulary.{called_by, limit_of, CallError, Ok, Err, arith}
use Rattle.osi_stack.proofs.called.what_a_call_sends.{call_handed, call_allowed, call_refused}
use Rattle.osi_stack.proofs.calls.make_planned_call.Goals as goal

pub returns-in-Err-clause-refused : goal.returns-in-Err-clause-refused
returns-in-Err-clause-refused c =
    call_refused {A = Unit {0}} (Err c.in-Err.error) c.args.session.now (called_by c.args.request) c.in_ok-plan.plan.sent c.sent.result.now
    c.args.reference (limit_of c.args.session.now.state) c.args.carrier.now.state
    c.in_ok-plan.ensures.accepted c.in_ok-plan.ensures.sent c.sent.ensures c.in-Err.ensures.refused

pub returns-clause-carrier : goal.returns-clause-carrier
returns-clause-carrier c =
    call_handed {A = Unit {0}} {E = CallError} (Ok tt) c.args.session.now (called_by c.args.request) c.in_ok-plan.plan.sent
    c.sent.result.now c.args.reference (limit_of c.args.session.now.state) c.args.carrier.now c.send_call.new.carrier
    c.in_ok-plan.ensures.accepted c.in_ok-plan.ensures.sent c.sent.ensures c.in-Ok.ensures.ok

pub returns-clause-allowed : goal.returns-clause-allowed
returns-clause-allowed c = grind (arith, call_allowed)
