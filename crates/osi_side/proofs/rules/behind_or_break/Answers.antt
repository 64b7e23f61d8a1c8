use Rattle.std.proofs.Common.{arith}
use Rattle.osi_side.proofs.told.what_is_known_of_a_side.{nil_of}
use Rattle.osi_side.proofs.rules.behind_or_break.Goals as goal

pub returns : goal.returns
returns c = grind (arith, nil_of)
