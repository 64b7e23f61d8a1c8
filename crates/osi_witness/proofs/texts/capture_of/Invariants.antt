use Rattle.std.proofs.Common.{length}
use Rattle.osi_report.specs.Reading.{rows_left}
use Rattle.osi_witness.proofs.texts.capture_of.Given as goal

abbrev pub decreases-pieces : goal.decreases-pieces
decreases-pieces l = length (rows_left l.pieces)
