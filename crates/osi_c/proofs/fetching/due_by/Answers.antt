use Rattle.std.proofs.Common.{arith}
use Rattle.osi_c.proofs.each_connection_is_looked_at.{still_if, none_as, by_its_number}
use Rattle.osi_c.proofs.fetching.due_by.Goals as goal

pub returns-then-is_still-clause-none : goal.returns-then-is_still-clause-none
returns-then-is_still-clause-none c = grind (arith, still_if)

pub returns-clause-none : goal.returns-clause-none
returns-clause-none c = search (arith, none_as, by_its_number)
