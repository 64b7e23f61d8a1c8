use Rattle.std.specs.Prelude.{[]}
use Rattle.std.proofs.Common.{arith}
use Rattle.osi_tpkt.proofs.a_prefix_of_a_packet.{part_front, part_whole, empty_front}
use Rattle.osi_tpkt.proofs.headers.survey_first.Goals as goal

pub returns-in-3-clause-front : goal.returns-in-3-clause-front
returns-in-3-clause-front c =
    part_front c.part_of.result [] c.args.piece.now empty_front (omega arith) (λ i. omega (arith, c.type_inv.piece i))
    c.in-3.len_at_least c.part_of.ensures.least c.part_of.ensures.used c.part_of.ensures.whole

pub returns-in-3-clause-whole : goal.returns-in-3-clause-whole
returns-in-3-clause-whole c =
    part_whole c.part_of.result [] c.args.piece.now empty_front c.in-3.len_at_least c.part_of.ensures.least
    c.part_of.ensures.used c.part_of.ensures.whole
