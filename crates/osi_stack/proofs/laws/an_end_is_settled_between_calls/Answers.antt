use Rattle.osi_stack.proofs.Vocabulary.{arith, ◌∷◌, [], refl, value_at, broken}
use Rattle.osi_stack.proofs.given_up.who_waits_was_still_requested.{disconnect_settled}
use Rattle.osi_stack.proofs.opening.live_connections_have_addresses.{ShownFirst, known_at}
use Rattle.osi_stack.proofs.carried.open_connections_stay_open.{SessionLaws}
use Rattle.osi_stack.proofs.sound.the_invariant_between_calls.{Profiles, fresh_settled, connect_settled, call_settled, feeds_settled}
use Rattle.osi_stack.proofs.sound.the_invariant_between_calls.{first_settled, carried_settled, breaks_settled, none_at, profiled_at}
use Rattle.osi_stack.proofs.each_session.what_the_tables_say.{session_laws, unopened}
use Rattle.osi_stack.proofs.laws.an_end_is_settled_between_calls.Goals as goal

pub returns : goal.returns
returns c =
    let laws : SessionLaws = session_laws (grind (arith, unopened)) in
    let shown : ShownFirst = record {
      first = c.what_a_user_is_shown_first.ensures.first;
      taken = c.what_a_user_is_shown_first.ensures.taken;
      asked = c.what_a_user_is_shown_first.ensures.asked;
    } in
    let profiles : Profiles = record {
      called = c.units_are_a_profile.ensures.called;
      caller = c.units_are_a_profile.ensures.caller;
      kept = c.units_are_a_profile.ensures.kept;
    } in
    record {
      begins = fresh_settled;
      connects = connect_settled profiles;
      called = call_settled profiles shown laws c.where_a_call_is_accepted.ensures.begun c.what_closes_sends_nothing.ensures.call;
      fed = grind (arith, feeds_settled);
      shown = first_settled;
      carried = carried_settled;
      disconnected = disconnect_settled (λ s h. c.units_are_a_profile.ensures.kept s (broken ∷ []) h);
      broken = breaks_settled;
      over = λ r e s over. none_at r e s.orderly over;
      gone = λ r e s over. s.gone over r;
      profile = λ r session e s kept. profiled_at r session e.lines (value_at r e.lines) refl kept s.profiled;
      known = known_at;
    }
