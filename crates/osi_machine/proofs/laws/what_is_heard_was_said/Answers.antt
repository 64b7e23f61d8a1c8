use Rattle.std.proofs.Common.{arith}
use Rattle.osi_machine.proofs.tables.what_one_side_received_the_other_sent.{lost_ends, heard_was_said}
use Rattle.osi_machine.proofs.laws.what_is_heard_was_said.Goals as goal

pub returns : goal.returns
returns c = search (arith, heard_was_said, lost_ends)
