use Rattle.osi_c.proofs.what_is_fetched_of_a_judge.{none_of_both}
use Rattle.osi_c.proofs.fetching.due_of_either.Goals as goal

pub returns-in-None-clause-none : goal.returns-in-None-clause-none
returns-in-None-clause-none c = none_of_both c.due_of-in-None.result _ _ c.in-None.ensures.none c.due_of-in-None.ensures.none
