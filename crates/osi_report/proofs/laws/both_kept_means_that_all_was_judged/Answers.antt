use Rattle.osi_report.proofs.a_last_line_is_never_empty.{both_kept}
use Rattle.osi_report.proofs.laws.both_kept_means_that_all_was_judged.Goals as goal

pub returns : goal.returns
returns c = both_kept
