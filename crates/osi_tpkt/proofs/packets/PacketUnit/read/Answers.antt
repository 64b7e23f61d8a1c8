use Rattle.std.proofs.Common.{◌-◌, ℕ, List, arith}
use Rattle.osi_tpkt.proofs.Vocabulary.{IsOctets}
use Rattle.osi_unit.proofs.lists_of_octets_stay_octets.{octets_take, octets_drop}
use Rattle.osi_tpkt.proofs.no_packet_is_a_prefix_of_another.{one_front}
use Rattle.osi_tpkt.proofs.a_prefix_of_a_packet.{front_packet, where_whole, where_short, short_whole_piece}
use Rattle.osi_tpkt.proofs.packets.PacketUnit.read.Goals as goal

pub returns-then-not-fed-clause-begun : goal.returns-then-not-fed-clause-begun
returns-then-not-fed-clause-begun c = grind (arith, short_whole_piece, where_short)

pub invariant_of-result : goal.invariant_of-result
invariant_of-result c =
    let octets : List ℕ = c.args.octets.now in
    let packet = front_packet octets c.in-Ok.fed.used c.in-Ok.ensures.used c.in-Ok.ensures.front
    (grind (arith, where_whole)) in
    let known : IsOctets octets = λ i. omega (arith, c.type_inv.octets i) in
    search (arith, octets_take, octets_drop)

pub returns-clause-only : goal.returns-clause-only
returns-clause-only c = grind (arith, front_packet, where_whole, one_front)
