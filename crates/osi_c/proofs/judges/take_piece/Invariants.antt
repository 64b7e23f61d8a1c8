use Rattle.std.proofs.Common.{length}
use Rattle.osi_c.proofs.a_piece_passes_to_a_judge.{IsPassing}
use Rattle.osi_c.proofs.judges.take_piece.Given as goal

abbrev pub invariant-rest : goal.invariant-rest
invariant-rest l = IsPassing l.fn.side l.fn.piece l.rest l.fn.held l.held

abbrev pub decreases-rest : goal.decreases-rest
decreases-rest l = length l.rest
