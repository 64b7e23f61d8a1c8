use Rattle.osi_report.proofs.reports_are_alike.{one_judgement, one_report}
use Rattle.osi_report.proofs.laws.a_text_has_one_judgement.Goals as goal

pub returns-clause-text : goal.returns-clause-text
returns-clause-text c = one_judgement

pub returns-clause-report : goal.returns-clause-report
returns-clause-report c = one_report
