use Rattle.osi_session.proofs.Vocabulary.{Listener, tsdus_of, called_by, step_of, ◌∙◌, ℕ, ap, refl}
use Rattle.osi_session.proofs.tables.what_the_table_of_calls_answers.{sent_short}
use Rattle.osi_session.proofs.moves.the_move_of_each_input.{plan_of}
use Rattle.osi_session.proofs.runs.the_invariant_in_memory.{request_small, request_sound, request_begun}
use Rattle.osi_session.proofs.tables.what_an_accepted_call_does.{accepts}
use Rattle.osi_session.proofs.sessions.Session.plan.Goals as goal

-- what an accepted call sends is short
pub within-requires : goal.within-requires
within-requires c = sent_short c.self.inside.state (called_by c.args.request) (step_of c.in_ok-step.step) c.in_ok-step.ensures

pub returns-in-Ok : goal.returns-in-Ok
returns-in-Ok c =
    let x = step_of c.in_ok-step.step in
    let a = accepts c.in_ok-step.ensures c.self.view_is c.size_limit.ensures c.self.invariant.0 (request_small c.args.request) in
    record {
      state = a.leaves;
      sent = c.in-Ok.ensures.written ∙ a.sends;
      planned = plan_of (called_by c.args.request)
          (record { was = c.self.inside.state; next = c.in_ok-step.step.next; sent = c.in-Ok.sent }) x c.in_ok-step.ensures refl
          (c.in-Ok.ensures.written ∙ ap (λ (n : ℕ). tsdus_of n x.sent) c.size_limit.ensures);
      was = ap (λ (s : Listener). s.state) c.self.view_is;
      accepted = a.passes;
      sendable = a.sendable;
      refused = tt;
    }

pub returns-in-Err-clause-refused : goal.returns-in-Err-clause-refused
returns-in-Err-clause-refused c =
    (accepts c.in_ok-step.ensures c.self.view_is c.size_limit.ensures c.self.invariant.0 (request_small c.args.request)).passes

pub invariant_of-result : goal.invariant_of-result
invariant_of-result c = (
  request_sound c.self.inside.state c.args.request (step_of c.in_ok-step.step) c.in_ok-step.ensures c.self.invariant.0,
  request_begun c.self.inside.state c.args.request (step_of c.in_ok-step.step) c.in_ok-step.ensures,
)
