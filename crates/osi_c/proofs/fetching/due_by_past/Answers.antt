use Rattle.std.proofs.Common.{arith}
use Rattle.osi_c.proofs.each_connection_is_looked_at.{past_still_if, none_as, past_by_its_number}
use Rattle.osi_c.proofs.fetching.due_by_past.Goals as goal

pub returns-then-is_still_past-clause-none : goal.returns-then-is_still_past-clause-none
returns-then-is_still_past-clause-none c = grind (arith, past_still_if)

pub returns-clause-none : goal.returns-clause-none
returns-clause-none c = search (arith, none_as, past_by_its_number)
