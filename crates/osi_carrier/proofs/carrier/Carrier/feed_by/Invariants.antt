use Rattle.std.proofs.Common.{length}
use Rattle.osi_carrier.proofs.stream.a_piece_is_read_packet_by_packet.{IsRead}
use Rattle.osi_carrier.proofs.carrier.Carrier.feed_by.Given as goal

abbrev pub invariant-packets : goal.invariant-packets
invariant-packets l = IsRead l.fn.self l.fn.piece l.self l.rest

abbrev pub decreases-packets : goal.decreases-packets
decreases-packets l = length l.rest
