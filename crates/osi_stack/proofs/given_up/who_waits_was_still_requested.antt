-- One connection is given up: each session that waits for its transport connection still has one that was requested,
-- and the invariant of every end between any two calls is kept.
use Rattle.osi_stack.proofs.Vocabulary.{eqb-true, eq-eqb, closed_with, value_at, asked, Listener, after_input, broken, react}
use Rattle.osi_stack.proofs.Vocabulary.{is_wait_transport, HasProfile, HasAsked, kept_at, IsSettled, End, orderly_closed, arith, ◌≡◌, ℕ}
use Rattle.osi_stack.proofs.Vocabulary.{◌==◌, Bool, true, false, Some, None, refl, gives_up, disconnects}
use Rattle.osi_stack.proofs.given_up.the_invariant_stays.{given_other, disconnect_lasts, disconnect_is, disconnect_attended}
use Rattle.osi_stack.proofs.given_up.the_invariant_stays.{disconnect_lines, disconnect_sessions, disconnect_came, named_given}
use Rattle.osi_stack.proofs.given_up.the_invariant_stays.{disconnect_ordered, disconnect_sound, disconnect_carrier, given_here}
use Rattle.osi_stack.proofs.given_up.the_invariant_stays.{session_given}
use Rattle.osi_stack.proofs.carried.no_session_is_left_after_the_end.{concluded_gone}
use Rattle.osi_stack.proofs.carried.packets_without_events.{both}
use Rattle.osi_stack.proofs.carried.what_sessions_leave_of_the_carrier.{close_keeps}

-- ---- a session that waits for its transport connection

broken_waits : (s : Listener) → is_wait_transport (after_input s broken).state.phase ≡ false
unfolding react
broken_waits s = refl

asked_by : (r q : ℕ) (e : End) (s : Listener) (b : Bool) → (q == r) ≡ b → HasAsked e → (closed_with r 128 e.carrier).ended ≡ None →
    kept_at q (gives_up r e.lines) ≡ Some s → is_wait_transport s.state.phase ≡ true →
    value_at q (closed_with r 128 e.carrier).live ≡ Some asked
asked_by r q e s true at has lasts is waits = grind (arith, given_here, session_given, eqb-true, broken_waits, both)
asked_by r q e s false at has lasts is waits = grind (arith, both, eq-eqb, close_keeps r e.carrier, given_other)

pub disconnect_asked : (r : ℕ) (e : End) → HasAsked e → HasAsked (disconnects r e)
disconnect_asked r e has over q s is waits = grind (arith, disconnect_lasts, disconnect_is, asked_by)

-- ---- between any two calls

pub disconnect_settled : ((s : Listener) → HasProfile s.state → HasProfile (after_input s broken).state) → (r : ℕ) (e : End) → IsSettled e →
    IsSettled (disconnects r e)
disconnect_settled profiles r e s =
    search (
      arith,
      disconnect_attended,
      disconnect_carrier,
      orderly_closed,
      disconnect_sound,
      disconnect_asked,
      disconnect_ordered,
      disconnect_came,
      disconnect_sessions,
      disconnect_lines,
      named_given,
      concluded_gone,
    )
