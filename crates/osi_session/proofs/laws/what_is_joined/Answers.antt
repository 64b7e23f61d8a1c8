use Rattle.std.proofs.Common.{arith}
use Rattle.osi_session.proofs.tsdu.what_is_joined.{inputs_kept, joined_holds}
use Rattle.osi_session.proofs.tsdu.what_a_receiver_keeps.{call_keeps, first_arrives, middle_arrives, last_arrives}
use Rattle.osi_session.proofs.laws.what_is_joined.Goals as goal

pub returns : goal.returns
returns c = search (arith, inputs_kept, joined_holds, call_keeps, first_arrives, middle_arrives, last_arrives)
