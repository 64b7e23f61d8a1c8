use Rattle.std.proofs.Common.{arith, rules}
use Rattle.osi_carrier.proofs.references.rows_in_order.{place_here}
use Rattle.osi_carrier.proofs.lookup.place_in.Goals as goal

pub returns-then-reference : goal.returns-then-reference
returns-then-reference g c = search (arith, rules, place_here)
