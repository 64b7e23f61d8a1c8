use Rattle.std.proofs.Common.{arith, inl, sym, ◌∙◌}
use Rattle.osi_c.proofs.what_is_fetched_of_a_judge.{none_of}
use Rattle.osi_c.proofs.fetching.due_of.Goals as goal

pub returns-then-contains-clause-none : goal.returns-then-contains-clause-none
returns-then-contains-clause-none c = inl (sym c.contains.ensures ∙ c.if-contains.true)

pub returns-then-not-is_certain-clause-none : goal.returns-then-not-is_certain-clause-none
returns-then-not-is_certain-clause-none c = grind (arith, none_of)

pub returns-clause-some : goal.returns-clause-some
returns-clause-some c = grind arith
