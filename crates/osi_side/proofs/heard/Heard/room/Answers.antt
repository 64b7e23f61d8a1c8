use Rattle.std.proofs.Common.{arith}
use Rattle.osi_side.proofs.outlined.equal_tsdus_in_a_row_are_kept_once.{room_once}
use Rattle.osi_side.proofs.heard.Heard.room.Goals as goal

pub returns : goal.returns
returns c = grind (arith, room_once)
