use Rattle.osi_stack.proofs.Vocabulary.{stops, holding, waits, ◌≡◌, false, is_some, sym, ap, ◌∙◌}
use Rattle.osi_stack.proofs.carried.packets_without_events.{quiet_stops}
use Rattle.osi_stack.proofs.sound.the_invariant_between_calls.{feeds_of}
use Rattle.osi_stack.proofs.stacks.Stack.feed.Goals as goal

pub invariant_of-self : goal.invariant_of-self
invariant_of-self c =
    let old = holding c.self.inside.carrier c.self.inside.lines in
    let new = holding c.feed_to_indication-used.new.carrier c.feed_to_indication-used.new.lines in
    let quiet : stops old.end ≡ false =
    quiet_stops old.end (ap is_some (sym c.ended.ensures) ∙ sym c.is_some.ensures ∙ c.if-is_some.false)
    (sym c.wait-2.ensures ∙ c.if-wait.false) in
    c.an_end_is_settled_between_calls.ensures.fed old new c.args.piece.now
    (record { used = c.feed_to_indication-used.result; whole = waits new.end.lines })
    (feeds_of old new c.args.piece.now c.feed_to_indication-used.result quiet c.feed_to_indication-used.ensures.goes
    c.feed_to_indication-used.ensures.used
    c.feed_to_indication-used.ensures.progress)
    c.self.invariant
