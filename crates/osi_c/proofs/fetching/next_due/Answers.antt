use Rattle.std.proofs.Common.{arith, inl}
use Rattle.osi_c.proofs.what_is_fetched_of_a_judge.{none_at_all, some_as}
use Rattle.osi_c.proofs.fetching.next_due.Goals as goal

pub returns-in-Some-clause-some : goal.returns-in-Some-clause-some
returns-in-Some-clause-some c = (inl c.in-Some.ensures.some.0, c.in-Some.ensures.some.1)

pub returns-in-None-clause-some : goal.returns-in-None-clause-some
returns-in-None-clause-some c = grind (arith, some_as)

pub returns-in-None-clause-none : goal.returns-in-None-clause-none
returns-in-None-clause-none c = grind (arith, none_at_all)
