use Rattle.osi_report.proofs.Vocabulary.{length}
use Rattle.osi_report.proofs.what_is_fed_piece_by_piece_passes_whole.{Comes, IsFed}
use Rattle.osi_report.proofs.disputes.feed_all.Given as goal

abbrev pub invariant-rest : goal.invariant-rest
invariant-rest l = IsFed Comes l.fn.direction l.fn.judge l.judge l.fn.octets l.rest

abbrev pub decreases-rest : goal.decreases-rest
decreases-rest l = length l.rest
