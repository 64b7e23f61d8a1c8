-- Giving up a single connection (X.224 section 6.7).
use Rattle.std.specs.Prelude.{◌≡◌, ◌≢◌, ℕ, Bool, false, not, [], Option, Some, None, option_map, if◌then◌else◌}
use Rattle.osi_carrier.specs.Calls.{closed_with}
use Rattle.osi_carrier.specs.Rows.{Rows, value_at, put}
use Rattle.osi_session.specs.Listening.{Listener, broken, after_input}
use Rattle.osi_session.specs.Phases.{is_wait_transport}
use Rattle.osi_session.specs.declared.faults.CallError.{CallError}
use Rattle.osi_session.specs.declared.faults.CallError.TheVariants as error
use Rattle.osi_stack.specs.Calls.{has_given}
use Rattle.osi_stack.specs.Hearing.{concludes}
use Rattle.osi_stack.specs.State.{Line, End, session_at}

-- ---- why it is refused

-- a session that waits for its transport connection: no DR is sent before the CC has arrived
abbrev pub awaits_transport : Option Listener → Bool
awaits_transport None = false
awaits_transport (Some session) = is_wait_transport session.state.phase

-- a reference that was never given, and a connection whose CC is awaited
abbrev pub disconnect_error : ℕ → End → Option CallError
disconnect_error r e =
    if not (has_given r e.carrier) then Some error.NoSuchConnection
    else (if awaits_transport (session_at r e) then Some error.BadState else None)

-- ---- the effect

-- the session is lost as by a break, and its user receives nothing more
abbrev pub given_up : Line → Line
given_up line = record line { session = option_map (λ s. after_input s broken) line.session; waiting = [] }

abbrev pub gives_up_by : ℕ → Option Line → Rows Line → Rows Line
gives_up_by r None lines = lines
gives_up_by r (Some line) lines = put r (given_up line) lines

-- that of a reference
abbrev pub gives_up : ℕ → Rows Line → Rows Line
gives_up r lines = gives_up_by r (value_at r lines) lines

-- The transport connection is closed with reason 128 if it is open, and the session is given up. If that ends the
-- carrier, as in class 0, all sessions are lost.
abbrev pub disconnects : ℕ → End → End
disconnects r e = concludes (record { carrier = closed_with r 128 e.carrier; lines = gives_up r e.lines })

-- ---- what stays

-- All other connections are as they were: their sessions, their pending indications, their transport connections with
-- all that these keep and have to send, and their addresses.
pub record LeavesOthers (r : ℕ) (old new : End) : Type 0 where
  pub lines : (q : ℕ) → q ≢ r → value_at q new.lines ≡ value_at q old.lines
  pub live : (q : ℕ) → q ≢ r → value_at q new.carrier.live ≡ value_at q old.carrier.live
  pub tsaps : new.carrier.tsaps ≡ old.carrier.tsaps
  pub class : new.carrier.class ≡ old.carrier.class
  pub given : new.carrier.given ≡ old.carrier.given
