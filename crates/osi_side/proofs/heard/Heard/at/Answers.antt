use Rattle.osi_side.proofs.Vocabulary.{arith}
use Rattle.osi_side.proofs.outlined.equal_tsdus_in_a_row_are_kept_once.{counted_in, place_in}
use Rattle.osi_side.proofs.heard.Heard.at.Goals as goal

pub run_at-at-requires-clause-there : goal.run_at-at-requires-clause-there
run_at-at-requires-clause-there c = grind (arith, counted_in)

pub returns : goal.returns
returns c = grind (arith, place_in)
