use Rattle.osi_report.proofs.what_passed_of_a_side_is_counted.{one_blames, one_ends}
use Rattle.osi_report.proofs.laws.one_direction_is_not_judged.Goals as goal

pub returns-clause-quiet : goal.returns-clause-quiet
returns-clause-quiet c = λ d e text lines status j none. one_blames e text lines status j none d

pub returns-clause-last : goal.returns-clause-last
returns-clause-last c = λ e text lines status j none some. one_ends e text lines status j none some
