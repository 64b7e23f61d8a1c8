use Rattle.osi_pair.proofs.flight.who_receives_what_is_in_flight.{TakeLaws}
use Rattle.osi_pair.proofs.packet.when_a_session_replies_or_closes.{AnswerLaws}
use Rattle.osi_pair.proofs.same.a_carry_in_any_pieces.{same_carry}
use Rattle.osi_pair.proofs.carry.a_carry_is_deliveries.{CarryLaws, carries_stand}
use Rattle.osi_pair.proofs.packet.a_session_that_moved.{MovingLaws}
use Rattle.osi_pair.proofs.packet.a_packet_is_one_delivery_or_none.{PacketLaws}
use Rattle.osi_pair.proofs.ending.memory_runs_out_for_an_event.{StarveLaws}
use Rattle.osi_pair.proofs.packet.each_packet_keeps_the_match.{packet_stands}
use Rattle.osi_pair.proofs.standing.how_two_ends_carry.Goals as goal

pub returns : goal.returns
returns c =
    let takes : TakeLaws = record { behind = c.data_is_no_fault_behind.ensures.under_way; left = c.who_is_left_is_over.ensures } in
    let packets : PacketLaws = assumption in
    let moves : MovingLaws = assumption (packets, takes) in
    let answers : AnswerLaws = assumption in
    let starving : StarveLaws = assumption (packets, takes) in
    let carrying : CarryLaws = assumption (packet_stands moves answers starving, packets) in
    record {
      carries = λ side most old new octets. carries_stand carrying side most old octets new;
      once = same_carry carrying;
    }
