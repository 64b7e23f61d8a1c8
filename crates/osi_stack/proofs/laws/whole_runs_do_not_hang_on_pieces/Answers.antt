use Rattle.osi_stack.proofs.Vocabulary.{arith, PacketLaws}
use Rattle.osi_stack.proofs.in_step.a_request_whatever_is_pending.{asked_alike}
use Rattle.osi_stack.proofs.in_step.a_break_while_indications_are_pending.{breaks_alike}
use Rattle.osi_stack.proofs.carried.open_connections_stay_open.{SessionLaws}
use Rattle.osi_stack.proofs.in_step.what_a_look_finds.{looks_in_live, looks_broken, looks_behind, look_apart}
use Rattle.osi_stack.proofs.in_step.two_runs_reach_the_same_state.{runs_alike}
use Rattle.osi_stack.proofs.each_session.what_the_tables_say.{session_laws, unopened}
use Rattle.osi_stack.proofs.in_step.rounds_with_requests_at_any_time.{asking_alike, whole_asking_alike}
use Rattle.osi_stack.proofs.in_step.the_last_octets_of_two_runs.{whole_runs_alike}
use Rattle.osi_stack.proofs.laws.whole_runs_do_not_hang_on_pieces.Goals as goal

pub returns : goal.returns
returns c =
    let nothing = c.a_prefix_of_a_packet.ensures.nothing in
    let one_cut = c.a_stream_has_one_cut.ensures.packets in
    let packets : PacketLaws =
    record {
      one = c.no_packet_begins_another.ensures;
      front = c.a_prefix_of_a_packet.ensures.front;
      proper = c.a_prefix_of_a_packet.ensures.proper;
    } in
    let laws : SessionLaws = session_laws (grind (arith, unopened)) in
    let waits = c.where_a_call_is_accepted.ensures.begun in
    record {
      rounds = runs_alike nothing one_cut;
      last = whole_runs_alike packets nothing one_cut;
      broken = breaks_alike;
      seen = look_apart;
      behind = looks_behind;
      asked = asked_alike;
      asking = asking_alike laws waits nothing one_cut;
      asking_last = whole_asking_alike laws waits packets nothing one_cut;
      asking_broken = looks_broken;
      asking_seen = looks_in_live;
    }
