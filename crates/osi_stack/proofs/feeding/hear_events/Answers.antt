use Rattle.osi_stack.proofs.Vocabulary.{happening, holding, ◌∙◌}
use Rattle.osi_stack.proofs.carried.events_one_after_the_other.{heard_next, heard_left, heard_left_over, not_done}
use Rattle.osi_stack.proofs.feeding.hear_events.Goals as goal

pub events-preserved : goal.events-preserved
events-preserved c =
    heard_next (holding c.args.carrier.now c.args.lines.now) (holding c.events.carrier c.events.lines) (happening c.in-Some.event)
    c.next_event.new.self.state (holding c.dispatch_event.new.carrier c.dispatch_event.new.lines) c.events.invariant
    c.in-Some.ensures.told c.in_ok-dispatch_event.ensures.ok (c.in_ok-dispatch_event.ensures.held ∙ c.next_event.ensures.held)

pub events-smaller : goal.events-smaller
events-smaller c =
    heard_left_over (holding c.events.carrier c.events.lines) (holding c.dispatch_event.new.carrier c.dispatch_event.new.lines)
    (happening c.in-Some.event) c.next_event.new.self.state c.in-Some.ensures.told c.in_ok-dispatch_event.ensures.ok

pub returns-in_err-dispatch_event-clause-err : goal.returns-in_err-dispatch_event-clause-err
returns-in_err-dispatch_event-clause-err c =
    not_done c.from_residual.result
    (heard_left (holding c.args.carrier.now c.args.lines.now) (holding c.events.carrier c.events.lines) (happening c.in-Some.event)
    c.next_event.new.self.state (holding c.dispatch_event.new.carrier c.dispatch_event.new.lines).end c.events.invariant
    c.in-Some.ensures.told c.in_err-dispatch_event.ensures.needed c.in_err-dispatch_event.ensures.err)
