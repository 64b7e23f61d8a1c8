use Rattle.std.proofs.Common.{arith}
use Rattle.osi_report.proofs.a_report_says_what_a_judge_holds.{pair_as}
use Rattle.osi_report.proofs.reports.pair_of.Goals as goal

pub returns : goal.returns
returns c = λ j h. search (arith, pair_as)
