use Rattle.std.proofs.Common.{arith}
use Rattle.osi_c.proofs.each_connection_is_looked_at.{past_still_both}
use Rattle.osi_c.proofs.notes.is_still_past.Goals as goal

pub returns : goal.returns
returns c = search (arith, past_still_both)
