use Rattle.osi_listing.proofs.Vocabulary.{arith, on_ok_weaker}
use Rattle.osi_listing.proofs.fields_one_after_the_other.{value_added}
use Rattle.osi_listing.proofs.session_lines.push_octets.Goals as goal

pub returns : goal.returns
returns c = grind (arith, on_ok_weaker, value_added)
