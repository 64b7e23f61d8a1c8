use Rattle.std.proofs.Common.{arith}
use Rattle.osi_side.proofs.Vocabulary.{eqb, pointwise}
use Rattle.osi_side.proofs.outlined.equal_tsdus_in_a_row_are_kept_once.{last_tsdu, same_by_pairs}
use Rattle.osi_side.proofs.heard.ends_with.Goals as goal

pub returns-clause-same : goal.returns-clause-same
returns-clause-same c = grind (arith, pointwise, eqb, last_tsdu, same_by_pairs)
