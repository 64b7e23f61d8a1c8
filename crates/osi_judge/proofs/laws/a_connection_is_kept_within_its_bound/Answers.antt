use Rattle.osi_judge.proofs.what_is_kept_of_a_connection_is_bounded.{bounded, kept_again}
use Rattle.osi_judge.proofs.laws.a_connection_is_kept_within_its_bound.Goals as goal

pub returns-clause-bound : goal.returns-clause-bound
returns-clause-bound c = bounded

pub returns-clause-again : goal.returns-clause-again
returns-clause-again c = kept_again
