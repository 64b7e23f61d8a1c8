use Rattle.osi_side.proofs.Vocabulary.{arith}
use Rattle.osi_side.proofs.outlined.equal_tsdus_in_a_row_are_kept_once.{begin_read, halves_begin}
use Rattle.osi_side.proofs.heard.run_at.Goals as goal

pub halves-init : goal.halves-init
halves-init c = halves_begin c.args.runs.now c.args.count c.args.place c.requires.runs c.requires.there

pub halves-preserved-then-runs-middle : goal.halves-preserved-then-runs-middle
halves-preserved-then-runs-middle c = grind (arith, begin_read)

pub halves-preserved : goal.halves-preserved
halves-preserved c = grind (arith, begin_read)
