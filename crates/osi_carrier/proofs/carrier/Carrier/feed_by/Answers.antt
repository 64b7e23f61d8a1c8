use Rattle.osi_carrier.proofs.Vocabulary.{eqb-false, Fetches, Carrying, Goes, stops, is_spoilt, ℕ, ◌-◌, List, length, refl, ap, sym, subst}
use Rattle.osi_carrier.proofs.Vocabulary.{◌∙◌, inl, inr, arith, Fetched, length-append}
use Rattle.osi_carrier.proofs.stream.a_piece_is_read_packet_by_packet.{read_first, read_next, read_stops, read_spoilt, read_part, read_over}
use Rattle.osi_carrier.proofs.stream.a_piece_is_read_packet_by_packet.{fed_goes}
use Rattle.osi_carrier.proofs.stream.a_tsdu_is_lent_from_its_piece.{lent_feeds, nothing_lent}
use Rattle.osi_carrier.proofs.carrier.Carrier.feed_by.Goals as goal

pub packets-init : goal.packets-init
packets-init c = grind (arith, read_first, eqb-false)

pub returns-in-Over-clause-feeds : goal.returns-in-Over-clause-feeds
returns-in-Over-clause-feeds c =
    let fetched = λ (f : Fetched). Fetches c.args.lends c.packets.self c.packets.rest.now f c.read_packet.new.lent c.read_packet.new.self in
    let goes = elim c.in-Over.is as (λ _. Goes c.args.self.now c.args.piece.now (length c.args.piece.now) c.read_packet.new.self) [
      | inl over ↦ read_over _ _ _ _ c.packets.invariant _ (subst fetched over c.read_packet.ensures)
      | inr part ↦ read_part _ _ _ _ c.packets.invariant _ (subst fetched part c.read_packet.ensures)
    ] in
    nothing_lent _ _ c.fed-in-Over.result _ c.fed-in-Over.ensures.none
    (fed_goes _ _ _ _ c.packets.invariant _ _ _ goes (omega arith) c.fed-in-Over.ensures.used c.fed-in-Over.ensures.whole)

pub returns-then-is_spoilt-clause-feeds : goal.returns-then-is_spoilt-clause-feeds
returns-then-is_spoilt-clause-feeds c =
    let spoilt = ap (λ (x : Carrying). is_spoilt x.state.ended) (sym c.self-in-packets.view_is) ∙
    (sym c.is_spoilt.ensures ∙ c.if-is_spoilt.true) in
    let goes = read_spoilt _ _ _ _ c.packets.invariant _ _ c.in-Packet.ensures spoilt in
    nothing_lent _ _ c.fed-then-is_spoilt.result _ c.fed-then-is_spoilt.ensures.none
    (fed_goes _ _ _ _ c.packets.invariant _ _ _ goes (omega arith) c.fed-then-is_spoilt.ensures.used c.fed-then-is_spoilt.ensures.whole)

pub returns-then-stops-clause-feeds : goal.returns-then-stops-clause-feeds
returns-then-stops-clause-feeds c =
    let sound = ap (λ (x : Carrying). is_spoilt x.state.ended) (sym c.self-in-packets.view_is) ∙
    (sym c.is_spoilt.ensures ∙ c.if-is_spoilt.false) in
    let stopped = ap (λ (x : Carrying). stops x.state) (sym c.self-in-packets.view_is) ∙ (sym c.stops.ensures ∙ c.if-stops.true) in
    let goes = subst (λ (l : List ℕ). Goes c.args.self.now c.args.piece.now (length c.args.piece.now - length l) c.read_packet.new.self)
    (sym c.split_at.ensures.back) (read_stops _ _ _ _ c.packets.invariant _ _ c.in-Packet.ensures stopped sound) in
    nothing_lent _ _ c.fed-then-stops.result _ c.fed-then-stops.ensures.none
    (fed_goes _ _ _ _ c.packets.invariant _ _ _ goes (omega arith) c.fed-then-stops.ensures.used c.fed-then-stops.ensures.whole)

pub returns-in-Lent-clause-feeds : goal.returns-in-Lent-clause-feeds
returns-in-Lent-clause-feeds c =
    lent_feeds _ _ _ _ _ _ c.read_packet.new.lent _ _ c.packets.invariant c.in-Lent.ensures refl refl

pub packets-preserved : goal.packets-preserved
packets-preserved c = grind (arith, read_next)

pub overflow_sub-result-in-Lent : goal.overflow_sub-result-in-Lent
overflow_sub-result-in-Lent c =
    let read = c.packets.invariant in
    omega (arith, ap length read.cut, length-append read.front c.packets.rest.now)

pub overflow_sub-piece : goal.overflow_sub-piece
overflow_sub-piece c =
    let read = c.packets.invariant in
    omega (arith, ap length read.cut, length-append read.front c.packets.rest.now, c.split_at.ensures.back_len)
