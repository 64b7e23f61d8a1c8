use Rattle.std.proofs.Common.{[], ℕ, ◌+◌, ◌*◌, ◌≤◌, length, take, ap, arith}
use Rattle.osi_tpkt.proofs.Vocabulary.{length-append, length-take-le, stated_length}
use Rattle.osi_tpkt.proofs.no_packet_is_a_prefix_of_another.{packet_front, stated_length-append}
use Rattle.osi_tpkt.proofs.a_prefix_of_a_packet.{empty_front, front_taken, stated_taken}
use Rattle.osi_tpkt.proofs.headers.whole_length.Goals as goal

pub returns-then-length-lt7-clause-none : goal.returns-then-length-lt7-clause-none
returns-then-length-lt7-clause-none c = λ u b rest packet is.
    let front = packet_front u b packet in
    omega (
      arith,
      front.1.1,
      front.0.at_least front.1.0,
      stated_length-append b rest front.1.0,
      length-append b rest,
      ap length is,
      ap stated_length is,
    )

pub returns-clause-front : goal.returns-clause-front
returns-clause-front c =
    front_taken [] c.args.piece.now (c.from.result * 256 + c.from-2.result) empty_front.octets (λ i. omega (arith, c.type_inv.piece i))
    (omega arith) (omega arith) c.if-piece-length.false (omega arith)

pub returns-clause-full : goal.returns-clause-full
returns-clause-full c =
    let n : ℕ = c.from.result * 256 + c.from-2.result in
    let size = length-take-le n c.args.piece.now c.if-piece-length.false in
    let long : 4 ≤ length (take n c.args.piece.now) = omega arith in
    (long, omega (arith, stated_taken [] c.args.piece.now n long))
