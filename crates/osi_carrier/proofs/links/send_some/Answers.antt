use Rattle.std.proofs.Common.{arith}
use Rattle.osi_carrier.proofs.written.some_units_may_go_now.{gives_no_more}
use Rattle.osi_carrier.proofs.written.what_is_left_after_some_units.{left_octets}
use Rattle.osi_carrier.proofs.links.send_some.Goals as goal

pub unreachable-requires : goal.unreachable-requires
unreachable-requires c = grind (arith, left_octets)

pub returns : goal.returns
returns c = grind (arith, gives_no_more)
