use Rattle.std.proofs.Common.{arith}
use Rattle.osi_stack.proofs.carried.open_connections_stay_open.{SessionLaws}
use Rattle.osi_stack.proofs.each_session.a_session_is_what_its_inputs_made.{made_along}
use Rattle.osi_stack.proofs.each_session.what_the_tables_say.{session_laws, unopened}
use Rattle.osi_stack.proofs.laws.a_session_is_made_by_what_came_for_it.Goals as goal

pub returns : goal.returns
returns c =
    let laws : SessionLaws = session_laws (grind (arith, unopened)) in
    made_along laws c.a_prefix_of_a_packet.ensures.nothing c.a_stream_has_one_cut.ensures.packets
