use Rattle.std.proofs.Common.{arith}
use Rattle.osi_machine.proofs.tables.what_is_in_flight_can_be_sent.{are_sound}
use Rattle.osi_machine.proofs.laws.what_is_under_way_can_be_sent.Goals as goal

pub returns : goal.returns
returns c = search (arith, are_sound)
