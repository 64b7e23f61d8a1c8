use Rattle.osi_listing.proofs.Vocabulary.{arith, append_assoc, drop_more, drop_all, append-nil}
use Rattle.osi_listing.proofs.session_lines.push_each.Goals as goal

pub codes-preserved : goal.codes-preserved
codes-preserved c = grind (arith, drop_more, append_assoc)

pub returns : goal.returns
returns c = grind (arith, drop_all, append-nil)
