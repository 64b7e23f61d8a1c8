use Rattle.osi_listing.proofs.Vocabulary.{arith, on_ok_weaker}
use Rattle.osi_listing.proofs.fields_one_after_the_other.{reference_added}
use Rattle.osi_listing.proofs.lines.push_reference_field.Goals as goal

pub returns : goal.returns
returns c = grind (arith, on_ok_weaker, reference_added)
