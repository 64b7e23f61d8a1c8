use Rattle.osi_report.proofs.a_last_line_is_never_empty.{last_words}
use Rattle.osi_report.proofs.laws.a_judgement_ends_with_a_line.Goals as goal

pub returns : goal.returns
returns c = last_words
