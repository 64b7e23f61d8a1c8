use Rattle.std.proofs.Common.{subst, arith}
use Rattle.osi_tpkt.proofs.Vocabulary.{append_assoc, IsOctets}
use Rattle.osi_tpkt.proofs.a_prefix_of_a_packet.{packet_behind}
use Rattle.osi_tpkt.proofs.packets.write_in_packet.Goals as goal

pub returns-clause-ok : goal.returns-clause-ok
returns-clause-ok g c = grind (arith, append_assoc, c.reserve.ensures.items, c.put_header.ensures.items, c.in-Ok-write.ensures.ok)

pub returns-clause-packet : goal.returns-clause-packet
returns-clause-packet g c =
    let unit = g.U.Unit.written (g.U.Unit.value c.args.unit.now) in
    packet_behind c.args.out.now.items unit c.write.new.out.items (returns-clause-ok g c)
    (subst IsOctets c.as_slice.ensures c.are_octets.ensures) (omega arith) (omega arith)
