use Rattle.osi_report.proofs.a_text_is_one_capture.{one_text}
use Rattle.osi_report.proofs.reports_are_alike.{one_finding}
use Rattle.osi_report.proofs.laws.a_text_has_one_finding.Goals as goal

pub returns-clause-text : goal.returns-clause-text
returns-clause-text c = one_text

pub returns-clause-finding : goal.returns-clause-finding
returns-clause-finding c = one_finding
