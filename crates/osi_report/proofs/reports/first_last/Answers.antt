use Rattle.std.proofs.Common.{arith}
use Rattle.osi_report.proofs.Vocabulary.{still_held}
use Rattle.osi_report.proofs.a_report_says_what_a_judge_holds.{first_mark, if_some}
use Rattle.osi_report.proofs.reports.first_last.Goals as goal

pub returns-in-Session-clause-some : goal.returns-in-Session-clause-some
returns-in-Session-clause-some c = grind (arith, if_some)

pub returns-in-Session-clause-none : goal.returns-in-Session-clause-none
returns-in-Session-clause-none c = grind (arith, still_held)

pub returns-in-Transport-clause-some : goal.returns-in-Transport-clause-some
returns-in-Transport-clause-some c =
    if_some c.transport_last.result c.transport_last.ensures.some (λ x f s k e.
    grind (arith, first_mark s c.args.judge.now c.args.first k.reached k.holds k.settled.judged e c.in-Transport.is))

pub returns-in-Transport-clause-none : goal.returns-in-Transport-clause-none
returns-in-Transport-clause-none c = λ s k e n.
    c.transport_last.ensures.none s c.args.first k
    (first_mark s c.args.judge.now c.args.first k.reached k.holds k.settled.judged e c.in-Transport.is) n
