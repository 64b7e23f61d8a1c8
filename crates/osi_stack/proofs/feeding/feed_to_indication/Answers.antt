use Rattle.osi_stack.proofs.Vocabulary.{eqb-true, Holding, IsAttended, Goes, holding, arith, ℕ, ◌-◌, ◌<◌, List, length, length-append}
use Rattle.osi_stack.proofs.Vocabulary.{is_some, sym, ap, subst, ◌∙◌}
use Rattle.osi_carrier.specs.Packets as carriers
use Rattle.osi_stack.proofs.stream.a_piece_look_by_look.{IsRead, read_first, read_waits, read_ended, read_dry, read_on, nonzero}
use Rattle.osi_stack.proofs.stream.an_empty_piece_changes_nothing.{idle_goes, nothing_of}
use Rattle.osi_stack.proofs.feeding.feed_to_indication.Goals as goal

pub returns-then-is_empty-clause-goes : goal.returns-then-is_empty-clause-goes
returns-then-is_empty-clause-goes c =
    let empty = sym c.is_empty.ensures ∙ c.if-is_empty.true in
    let stays = c.feed.ensures.empty (nothing_of c.args.piece.now empty) in
    let i = idle_goes (holding c.args.carrier.now c.args.lines.now) c.args.piece.now c.feed.result c.feed.new.self empty
    c.requires.quiet c.requires.attended
    (grind arith) (λ _. (stays.0, stays.1)) in
    i.goes

pub returns-then-is_empty-clause-empty : goal.returns-then-is_empty-clause-empty
returns-then-is_empty-clause-empty c = grind (arith, nothing_of, idle_goes)

pub packets-init : goal.packets-init
packets-init c = read_first (holding c.args.carrier.now c.args.lines.now) c.args.piece.now c.requires.quiet c.requires.attended

pub returns-then-wait-clause-goes : goal.returns-then-wait-clause-goes
returns-then-wait-clause-goes c =
    subst (λ (l : List ℕ). Goes (holding c.args.carrier.now c.args.lines.now) c.args.piece.now (length c.args.piece.now - length l)
    (holding c.feed_to_event-used.new.carrier c.feed_to_event-used.new.lines)) (sym c.split_at.ensures.back)
    (read_waits (holding c.args.carrier.now c.args.lines.now) c.args.piece.now (holding c.packets.carrier c.packets.lines)
    c.packets.rest.now c.feed_to_event-used.result (holding c.feed_to_event-used.new.carrier c.feed_to_event-used.new.lines)
    c.packets.invariant
    c.feed_to_event-used.ensures
    (sym c.wait.ensures ∙ c.if-wait.true))

pub returns-then-is_some-clause-goes : goal.returns-then-is_some-clause-goes
returns-then-is_some-clause-goes c =
    read_ended (holding c.args.carrier.now c.args.lines.now) c.args.piece.now (holding c.packets.carrier c.packets.lines) c.packets.rest.now
    c.feed_to_event-used.result (holding c.feed_to_event-used.new.carrier c.feed_to_event-used.new.lines) c.packets.invariant
    c.feed_to_event-used.ensures
    (sym c.wait.ensures ∙ c.if-wait.false) (ap is_some (sym c.ended.ensures) ∙ sym c.is_some.ensures ∙ c.if-is_some.true)

pub returns-then-is_empty-2-clause-goes : goal.returns-then-is_empty-2-clause-goes
returns-then-is_empty-2-clause-goes c =
    let none = eqb-true (length c.split_at.result.1.now) 0 (sym c.is_empty-in-packets.ensures ∙ c.if-is_empty-2.true) in
    read_dry (holding c.args.carrier.now c.args.lines.now) c.args.piece.now (holding c.packets.carrier c.packets.lines) c.packets.rest.now
    c.feed_to_event-used.result (holding c.feed_to_event-used.new.carrier c.feed_to_event-used.new.lines)
    c.a_prefix_of_a_packet.ensures.nothing
    c.packets.invariant c.feed_to_event-used.ensures (sym c.wait.ensures ∙ c.if-wait.false)
    (ap is_some (sym c.ended.ensures) ∙ sym c.is_some.ensures ∙ c.if-is_some.false)
    (ap length (sym c.split_at.ensures.back) ∙ none)

pub packets-preserved : goal.packets-preserved
packets-preserved c =
    let some = nonzero (length c.split_at.result.1.now) (sym c.is_empty-in-packets.ensures ∙ c.if-is_empty-2.false) in
    subst (λ (l : List ℕ). IsRead (holding c.args.carrier.now c.args.lines.now) c.args.piece.now
    (holding c.feed_to_event-used.new.carrier c.feed_to_event-used.new.lines) l) (sym c.split_at.ensures.back)
    (read_on (holding c.args.carrier.now c.args.lines.now) c.args.piece.now (holding c.packets.carrier c.packets.lines) c.packets.rest.now
    c.feed_to_event-used.result (holding c.feed_to_event-used.new.carrier c.feed_to_event-used.new.lines) c.packets.invariant
    c.feed_to_event-used.ensures
    (sym c.wait.ensures ∙ c.if-wait.false) (ap is_some (sym c.ended.ensures) ∙ sym c.is_some.ensures ∙ c.if-is_some.false)
    (subst (λ (l : List ℕ). 0 < length l) c.split_at.ensures.back some))

pub returns-then-is_empty-clause-attended : goal.returns-then-is_empty-clause-attended
returns-then-is_empty-clause-attended c =
    let e = returns-then-is_empty-clause-empty c (nothing_of c.args.piece.now (sym c.is_empty.ensures ∙ c.if-is_empty.true)) in
    subst (λ (h : Holding). IsAttended h.end) (sym e.1) c.requires.attended

pub overflow_sub-result : goal.overflow_sub-result
overflow_sub-result c =
    let cut = ap length c.packets.invariant.cut in
    omega (arith, cut, length-append c.packets.invariant.front c.packets.rest.now, c.split_at.ensures.back_len)

pub returns-then-wait-clause-progress : goal.returns-then-wait-clause-progress
returns-then-wait-clause-progress c =
    let cut = ap length c.packets.invariant.cut in
    let both = length-append c.packets.invariant.front c.packets.rest.now in
    let some = c.feed_to_event-used.ensures.feeds.progress in
    grind (arith, cut, both, some, c.split_at.ensures.back_len, c.feed_to_event-used.ensures.heard, c.packets.invariant.attended)
