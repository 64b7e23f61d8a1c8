use Rattle.osi_session.proofs.tables.two_restarts_that_cross.{of_equal, of_lower, agreed, one_answers}
use Rattle.osi_session.proofs.laws.a_restart_that_crosses_another.Goals as goal

pub returns : goal.returns
returns c = record { equal = of_equal; lower = of_lower; agreed = agreed; one_answers = one_answers }
