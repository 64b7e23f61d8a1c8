use Rattle.osi_blameless.proofs.blaming.a_bound_changes_no_first_break.{course_within}
use Rattle.osi_blameless.proofs.blaming.a_judge_with_a_bound_holds_what_passed.{holds_within}
use Rattle.osi_blameless.proofs.laws.bounded.a_bound_changes_nothing_that_is_judged.Goals as goal

pub returns-clause-holds : goal.returns-clause-holds
returns-clause-holds c = holds_within

pub returns-clause-same : goal.returns-clause-same
returns-clause-same c = course_within
