use Rattle.std.proofs.Common.{arith}
use Rattle.osi_listing.proofs.a_letter_of_either_case_is_a_digit.{of_a_letter, of_no_digit}
use Rattle.osi_listing.proofs.runs.value_of.Goals as goal

pub returns-then-letter-lt6 : goal.returns-then-letter-lt6
returns-then-letter-lt6 c = of_a_letter c.args.character (omega arith) (omega arith) (omega arith)

pub returns-else-letter-lt6 : goal.returns-else-letter-lt6
returns-else-letter-lt6 c = of_no_digit c.args.character (omega arith) (omega arith) (omega arith)
