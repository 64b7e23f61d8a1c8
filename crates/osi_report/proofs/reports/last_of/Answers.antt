use Rattle.std.proofs.Common.{arith}
use Rattle.osi_report.proofs.a_report_says_what_a_judge_holds.{kept_is}
use Rattle.osi_report.proofs.reports.last_of.Goals as goal

pub returns-in-None : goal.returns-in-None
returns-in-None c = grind (arith, kept_is)

pub returns-in-Some : goal.returns-in-Some
returns-in-Some c = λ s ps k l r a o. c.in-Some.ensures.some s ps k
