use Rattle.std.proofs.Common.{arith, ◌≡◌, ◌∷◌, [], ◌++◌, Ok, refl, sym, ap, subst}
use Rattle.osi_stack.proofs.Vocabulary.{Call, CallError, Data, called_by, called, react, limit_of, answers}
use Rattle.osi_stack.proofs.called.tsdus_that_are_handed_together.{one_error, hands_one}
use Rattle.osi_stack.proofs.called.what_a_call_sends.{call_handed, call_allowed, call_refused}
use Rattle.osi_stack.proofs.calls.make_call.Goals as goal

pub returns-in-Ok-clause-carrier : goal.returns-in-Ok-clause-carrier
returns-in-Ok-clause-carrier c =
    let s = c.args.session.now in
    let limit = limit_of s.state in
    let tsdu = c.in-Some.head.now ++ c.in-Data.user_data.now in
    let state = c.args.carrier.now.state in
    subst (λ (k : Call). c.send_headed.new.self ≡
    record c.args.carrier.now { state = answers c.args.reference limit (react s (called k)) state })
    (sym (ap called_by c.in-Data.is))
    (call_handed {A = Unit {0}} {E = CallError} (Ok tt) s (Data c.in-Data.user_data.now) (tsdu ∷ []) (tsdu ∷ []) c.args.reference limit
    c.args.carrier.now c.send_headed.new.self c.in-Some.ensures.accepted c.in-Some.ensures.sent refl
    (grind (arith, hands_one c.args.reference tsdu state c.in-Ok.ensures.allowed)))

pub returns-in-Ok-clause-allowed : goal.returns-in-Ok-clause-allowed
returns-in-Ok-clause-allowed c = grind (arith, react, call_allowed, one_error)

pub returns-in-Err-clause-refused : goal.returns-in-Err-clause-refused
returns-in-Err-clause-refused c = grind (arith, one_error, react, call_refused)
