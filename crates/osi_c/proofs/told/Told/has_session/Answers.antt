use Rattle.std.proofs.Common.{arith}
use Rattle.osi_c.proofs.what_is_told_is_kept.{sides_past, sides_there}
use Rattle.osi_c.proofs.told.Told.has_session.Goals as goal

pub returns-then-number-len : goal.returns-then-number-len
returns-then-number-len c = grind (arith, sides_past)

pub returns : goal.returns
returns c = grind (arith, sides_there)
