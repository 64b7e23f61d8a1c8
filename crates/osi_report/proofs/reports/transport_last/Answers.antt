use Rattle.std.proofs.Common.{arith}
use Rattle.osi_report.proofs.a_report_says_what_a_judge_holds.{mark_told, no_mark}
use Rattle.osi_report.proofs.reports.transport_last.Goals as goal

pub returns-in-Some-clause-some : goal.returns-in-Some-clause-some
returns-in-Some-clause-some c = grind (arith, mark_told)

pub returns-in-None-clause-none : goal.returns-in-None-clause-none
returns-in-None-clause-none c = grind (arith, no_mark)
