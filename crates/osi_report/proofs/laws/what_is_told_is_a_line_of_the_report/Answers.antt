use Rattle.osi_report.proofs.what_is_told_is_of_the_report.{news_in, one_is_silent}
use Rattle.osi_report.proofs.laws.what_is_told_is_a_line_of_the_report.Goals as goal

pub returns-clause-line : goal.returns-clause-line
returns-clause-line c = news_in

pub returns-clause-quiet : goal.returns-clause-quiet
returns-clause-quiet c = one_is_silent
