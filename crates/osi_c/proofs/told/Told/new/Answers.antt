use Rattle.std.proofs.Common.{arith}
use Rattle.osi_c.proofs.what_is_told_is_kept.{none_told}
use Rattle.osi_c.proofs.told.Told.new.Goals as goal

pub returns : goal.returns
returns c = grind (arith, none_told)
