use Rattle.osi_report.proofs.a_hearing_holds_what_passed.{none_held, none_opens}
use Rattle.osi_report.proofs.disputes.pass_if.Goals as goal

pub returns-in-None-clause-judge : goal.returns-in-None-clause-judge
returns-in-None-clause-judge c = λ capture h. none_held c.args.judge.now c.args.passing capture c.in-None.is h

pub returns-in-None-clause-opening : goal.returns-in-None-clause-opening
returns-in-None-clause-opening c = λ capture h. none_opens c.args.opening.now c.args.passing capture c.in-None.is h
