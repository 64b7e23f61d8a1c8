use Rattle.std.proofs.Common.{arith}
use Rattle.osi_side.proofs.outlined.a_point_is_its_outline.{ack_outline, point_outline}
use Rattle.osi_side.proofs.outlines.is_bare_point.Goals as goal

pub returns-in-Some-MinorPoint : goal.returns-in-Some-MinorPoint
returns-in-Some-MinorPoint c = grind (arith, point_outline)

pub returns-in-Some-MinorAck : goal.returns-in-Some-MinorAck
returns-in-Some-MinorAck c = grind (arith, ack_outline)
