use Rattle.osi_stack.proofs.Vocabulary.{holding, disconnects, ap, sym, ◌∙◌, refl, None, Bool, true, false, ℕ, ◌≡◌}
use Rattle.std.proofs.lemmas.Result.{IfErr-weaker, on_ok_weaker}
use Rattle.osi_stack.specs.Calls.{by_rule, has_given}
use Rattle.osi_stack.specs.Disconnecting.{awaits_transport, disconnect_error}
use Rattle.osi_stack.specs.State.{End, session_at}
use Rattle.osi_stack.proofs.stream.what_needs_memory_does_something.{wants_memory}
use Rattle.osi_stack.proofs.sound.the_invariant_between_calls.{settled_by}
use Rattle.osi_stack.proofs.stacks.Stack.disconnect.Goals as goal

pub invariant_of-self : goal.invariant_of-self
invariant_of-self c =
    let old = holding c.self.inside.carrier c.self.inside.lines in
    settled_by c.give_up.result old (holding c.give_up.new.carrier c.give_up.new.lines)
    (record old { end = disconnects c.args.reference.0 old.end }) c.give_up.ensures.ok c.give_up.ensures.err
    c.self.invariant (c.an_end_is_settled_between_calls.ensures.disconnected c.args.reference.0 old.end c.self.invariant)

pub returns-clause-ok : goal.returns-clause-ok
returns-clause-ok c = rw (← c.self.view_is) c.give_up.ensures.ok

pub returns-clause-needed : goal.returns-clause-needed
returns-clause-needed c = rw (← c.self.view_is) (wants_memory c.give_up.result _ c.give_up.ensures.needed)

pub returns-clause-err : goal.returns-clause-err
returns-clause-err c = rw (← c.self.view_is) c.give_up.ensures.err

allowed : (r : ℕ) (e : End) {given waits : Bool} → given ≡ has_given r e.carrier → given ≡ true →
    waits ≡ awaits_transport (session_at r e) → waits ≡ false → disconnect_error r e ≡ None
allowed r e g t w f = let given = sym g ∙ t in let waits = sym w ∙ f in rw (given, waits) refl

pub returns-clause-allowed : goal.returns-clause-allowed
returns-clause-allowed c =
    let none = allowed c.args.reference.0 c.args.self.now.end c.has_given.ensures c.if-not-has_given.false c.awaits_transport.ensures
    c.if-awaits_transport.false in
    on_ok_weaker c.give_up.result (λ _. none) c.give_up.ensures.ok

pub returns-clause-refused : goal.returns-clause-refused
returns-clause-refused c =
    let none = allowed c.args.reference.0 c.args.self.now.end c.has_given.ensures c.if-not-has_given.false c.awaits_transport.ensures
    c.if-awaits_transport.false in
    IfErr-weaker c.give_up.result _ _ (λ y m. ap by_rule m ∙ sym none) c.give_up.ensures.refused
