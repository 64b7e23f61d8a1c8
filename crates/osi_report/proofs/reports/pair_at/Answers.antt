use Rattle.std.proofs.Common.{arith}
use Rattle.osi_report.proofs.a_report_says_what_a_judge_holds.{pair_missing}
use Rattle.osi_report.proofs.reports.pair_at.Goals as goal

pub returns-in-None : goal.returns-in-None
returns-in-None c = search (arith, pair_missing)
