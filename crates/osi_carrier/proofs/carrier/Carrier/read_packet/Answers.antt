use Rattle.osi_carrier.proofs.Vocabulary.{Acts, Held, PacketActs, Carrying, arith, ◌+◌, length, Some, sym, ap, ◌∙◌, subst, Lends}
use Rattle.osi_carrier.proofs.Vocabulary.{carrying_lent, lent_if, with_lent}
use Rattle.osi_carrier.specs.contracts.carrier.Carrier.{the_view}
use Rattle.osi_carrier.proofs.stream.what_the_cutter_returns.{passed_packet}
use Rattle.osi_carrier.proofs.stream.a_tsdu_is_lent_from_its_piece.{lent_packet}
use Rattle.osi_carrier.proofs.carrier.Carrier.read_packet.Goals as goal

pub returns-then-take_packet : goal.returns-then-take_packet
returns-then-take_packet c =
    let new = the_view (record c.self.inside { switch = c.take_packet.new.self; cutter = c.pass.new.self }) in
    let lent = c.take_packet.new.lent in
    let is = c.if-take_packet.true in
    let lends = c.take_packet.ensures.lent is in
    let acts = passed_packet c.a_prefix_of_a_packet.ensures.nothing (the_view c.self.inside) (carrying_lent (Some lent) new)
    c.args.octets.now c.in-Some.packet.now c.in-Some.ensures.passes c.in-Some.ensures.sound
    (subst (λ b. Acts c.self.inside.switch c.in-Some.packet.now (with_lent (lent_if b lent) new.state)) is c.take_packet.ensures.acts) in
    grind (arith, lent_packet c.args.lends c.args.self.now c.args.octets.now (4 + length c.in-Some.packet.now) lent new c.requires)

pub returns : goal.returns
returns c = grind (arith, passed_packet)

pub gather-requires-clause-parted : goal.gather-requires-clause-parted
gather-requires-clause-parted c none =
    c.in_default.ensures.all (ap (λ (h : Held). h.octets) (sym c.in_default.ensures.none) ∙ none) c.self.invariant.fault
