use Rattle.std.proofs.Common.{arith}
use Rattle.osi_side.proofs.told.the_nearest_of_all_sessions_is_told.{all_tried}
use Rattle.osi_side.proofs.rules.nearest.Goals as goal

pub returns : goal.returns
returns c = grind (arith, all_tried)
