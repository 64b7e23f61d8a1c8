use Rattle.osi_stack.proofs.Vocabulary.{arith, subst, IsSound}
use Rattle.osi_stack.proofs.stream.what_was_written_is_read.{packet_is_unit}
use Rattle.osi_stack.proofs.given_up.the_invariant_stays.{disconnect_sound}
use Rattle.osi_stack.proofs.sound.the_invariant_is_kept.{packet_sound, fresh_sound, connect_sound, call_sound, feeds_sound, first_sound}
use Rattle.osi_stack.proofs.sound.the_invariant_is_kept.{carried_sound, breaks_sound}
use Rattle.osi_stack.proofs.each_session.what_the_tables_say.{session_laws, unopened}
use Rattle.osi_stack.proofs.laws.a_session_that_is_called_has_a_connection.Goals as goal

pub returns : goal.returns
returns c =
    let laws = session_laws (grind (arith, unopened)) in
    record {
      begins = fresh_sound;
      connects = connect_sound;
      called = call_sound laws;
      fed = feeds_sound laws;
      shown = first_sound;
      carried = carried_sound;
      disconnected = disconnect_sound;
      broken = breaks_sound;
      heard = λ e unit sendable lasts attended sound. subst IsSound (packet_is_unit e unit sendable)
          (packet_sound laws _ e lasts (attended lasts) sound);
    }
