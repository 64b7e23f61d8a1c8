use Rattle.std.proofs.Common.{arith}
use Rattle.osi_report.proofs.Vocabulary.{sym}
use Rattle.osi_report.proofs.a_report_says_what_a_judge_holds.{if_some}
use Rattle.osi_report.proofs.reports.told_first.Goals as goal

pub returns-in-Some-clause-some : goal.returns-in-Some-clause-some
returns-in-Some-clause-some c = grind (arith, if_some)

pub returns-in-Some-clause-none : goal.returns-in-Some-clause-none
returns-in-Some-clause-none c = λ s k n. absurd (c.first_last.ensures.none s k (sym c.in-Some.ensures.value) n)

pub returns-in-None-clause-none : goal.returns-in-None-clause-none
returns-in-None-clause-none c = λ s k n. grind arith
