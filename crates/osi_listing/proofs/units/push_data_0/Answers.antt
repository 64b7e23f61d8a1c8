use Rattle.osi_listing.proofs.Vocabulary.{arith, on_ok_weaker}
use Rattle.osi_listing.proofs.fields_one_after_the_other.{data_0_added}
use Rattle.osi_listing.proofs.units.push_data_0.Goals as goal

pub returns : goal.returns
returns c = grind (arith, on_ok_weaker, data_0_added)
