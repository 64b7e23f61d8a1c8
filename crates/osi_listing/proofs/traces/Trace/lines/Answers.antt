use Rattle.std.proofs.Common.{arith}
use Rattle.osi_listing.proofs.traces.Trace.lines.Goals as goal

pub returns-clause-bounded : goal.returns-clause-bounded
returns-clause-bounded c = grind arith
