use Rattle.osi_report.proofs.what_is_printed_of_a_side_is_found.{printed_is_found}
use Rattle.osi_report.proofs.laws.what_is_printed_of_a_side_is_found.Goals as goal

pub returns : goal.returns
returns c = printed_is_found
