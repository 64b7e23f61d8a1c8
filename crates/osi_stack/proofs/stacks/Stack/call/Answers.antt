use Rattle.osi_stack.proofs.Vocabulary.{OnOk, OnErr, called_by, called, has_given, to_session, Holding, holding, ◌≡◌, sym, ap, subst, ◌∙◌}
use Rattle.osi_stack.proofs.Vocabulary.{request_small}
use Rattle.osi_stack.proofs.called.a_call_without_a_connection.{IsAnswered, answered_there, called_ok, called_err}
use Rattle.osi_stack.proofs.sound.the_invariant_between_calls.{settled_by}
use Rattle.osi_stack.proofs.stacks.Stack.call.Goals as goal

pub invariant_of-self : goal.invariant_of-self
invariant_of-self c =
    let old = holding c.self.inside.carrier c.self.inside.lines in
    let new = holding c.call.new.carrier c.call.new.self in
    settled_by c.call.result old new
    (record old { end = to_session c.args.reference.0 (called (called_by c.args.request)) old.end })
    (called_ok c.call.result old new (to_session c.args.reference.0 (called (called_by c.args.request)) old.end) c.call.ensures.ok
    c.call.ensures.held)
    (called_err c.call.result c.self.inside.carrier c.call.new.carrier c.self.inside.lines c.call.new.self c.call.ensures.err)
    c.self.invariant
    (c.an_end_is_settled_between_calls.ensures.called c.args.reference.0 (called_by c.args.request) old.end (request_small c.args.request)
    c.self.invariant)

pub returns : goal.returns
returns c =
    let r = c.args.reference.0 in
    let call = called_by c.args.request in
    let old = holding c.self.inside.carrier c.self.inside.lines in
    let new = holding c.call.new.carrier c.call.new.self in
    let laws = c.a_call_of_a_settled_end_is_answered_by_its_session.ensures in
    let a = subst (λ (x : Holding). IsAnswered c.call.result r call x.end) c.self.view_is
    (answered_there c.call.result r call old.end (ap (λ (x : Holding). has_given r x.end.carrier) c.self.view_is ∙ sym c.has_given.ensures ∙
    c.if-not-has_given.false) c.self.invariant (laws.answered r call old.end (request_small c.args.request) c.self.invariant)
    (laws.over r call old.end c.self.invariant) c.call.ensures.allowed c.call.ensures.refused) in
    record {
      ok = subst (λ (x : Holding). OnOk c.call.result (new ≡ record x { end = to_session r (called call) x.end })) c.self.view_is
          (called_ok c.call.result old new (to_session r (called call) old.end) c.call.ensures.ok c.call.ensures.held);
      allowed = a.allowed;
      refused = a.refused;
      table = a.table;
      answered = a.answered;
      over = a.over;
      err = subst (λ (x : Holding). OnErr c.call.result (new ≡ x)) c.self.view_is
          (called_err c.call.result c.self.inside.carrier c.call.new.carrier c.self.inside.lines c.call.new.self c.call.ensures.err);
    }
