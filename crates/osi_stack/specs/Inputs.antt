-- Everything that happened to the sessions of an end, in order, and what that made of them.
use Rattle.std.specs.Prelude.{◌≡◌, ◌==◌, ◌+◌, ℕ, List, [], ◌∷◌, ◌++◌, map, Option, Some, None, if◌then◌else◌}
use Rattle.osi_tpkt.specs.Stream.{ArePackets}
use Rattle.osi_carrier.specs.Happenings.{Happening}
use Rattle.osi_carrier.specs.Happenings as told
use Rattle.osi_carrier.specs.Orderly.{told_of}
use Rattle.osi_carrier.specs.Packets as carriers
use Rattle.osi_carrier.specs.Rows.{Rows, value_at}
use Rattle.osi_session.specs.Listening.{Input, Listener, called, opened, refused, broken, came, after_inputs}
use Rattle.osi_session.specs.Sessions.{awaits}
use Rattle.osi_stack.specs.Calls.{calls_with, connect_error, call_error}
use Rattle.osi_stack.specs.Disconnecting.{disconnect_error}
use Rattle.osi_stack.specs.Hearing.{after_packet}
use Rattle.osi_stack.specs.Messages.{kept_at}
use Rattle.osi_stack.specs.Rounds.{UserCall, user_does}
use Rattle.osi_stack.specs.Rounds.UserCall.{connecting, calling, disconnecting, breaking}
use Rattle.osi_stack.specs.Runs.{Call, Calls, used_in}
use Rattle.osi_stack.specs.State.{End, Holding}
use Rattle.osi_stack.specs.declared.connecting.Connect.{Connect}

-- ---- what happened

-- an event as an input of the session of its connection
abbrev pub input_of : Happening → Input
input_of (told.opened r) = opened
input_of (told.refused r reason) = refused reason
input_of (told.tsdu r octets) = came octets
input_of (told.closed r reason) = broken
input_of (told.faulted r fault) = broken

abbrev pub inputs_told : List Happening → List (ℕ × Input)
inputs_told events = map (λ event. (told_of event, input_of event)) events

pub record Past : Type 0 where
  -- the requests of the user, by the reference that each was given
  pub asked : Rows Connect
  -- the inputs of all sessions, with their references, in order
  pub inputs : List (ℕ × Input)

abbrev pub no_past : Past
no_past = record { asked = []; inputs = [] }

abbrev pub then_came : List (ℕ × Input) → Past → Past
then_came inputs past = record past { inputs = past.inputs ++ inputs }

-- ---- the result

abbrev pub inputs_of : ℕ → List (ℕ × Input) → List Input
inputs_of r [] = []
inputs_of r ((q, input) ∷ inputs) = if q == r then input ∷ inputs_of r inputs else inputs_of r inputs

-- a session has the CN of the user's request to send; or it awaits a CN
abbrev pub begun_as : Option Connect → Listener
begun_as None = awaits
begun_as (Some c) = calls_with c

abbrev pub made_at : ℕ → Past → Listener
made_at r past = after_inputs (begun_as (value_at r past.asked)) (inputs_of r past.inputs)

-- each session of an end is what its own inputs made of its beginning
abbrev pub AreMadeBy : Past → End → Type 0
AreMadeBy past e = (r : ℕ) (s : Listener) → kept_at r e.lines ≡ Some s → s ≡ made_at r past

-- ---- what happens in a call

-- packets arrived one after the other; these are the carrier's events
abbrev pub told_along : End → List (List ℕ) → List (ℕ × Input)
told_along e [] = []
told_along e (packet ∷ packets) = inputs_told (carriers.after_packet e.carrier packet).events ++ told_along (after_packet e packet) packets

abbrev pub past_called : UserCall → End → Past → Past
past_called (connecting c) e past = record past { asked = past.asked ++ (e.carrier.given + 1, c) ∷ [] }
past_called (calling r call) e past = then_came ((r, called call) ∷ []) past
past_called (disconnecting r) e past = then_came ((r, broken) ∷ []) past
past_called breaking e past = past

-- the user's call is accepted; a break needs no acceptance
abbrev pub IsAccepted : UserCall → End → Type 0
IsAccepted (connecting c) e = connect_error c e ≡ None
IsAccepted (calling r call) e = call_error r call e ≡ None
IsAccepted (disconnecting r) e = disconnect_error r e ≡ None
IsAccepted breaking e = Unit {0}

-- octets and indications come and go, and these packets arrived whole; or the user makes a call
pub data Step : Type 0 where
  serving : Call → List (List ℕ) → Step
  using : UserCall → Step

-- a step, and the past before and after it
abbrev pub Steps : Holding → Past → Step → Holding → Past → Type 0
Steps old before (serving call packets) new behind =
    Calls old call new × ArePackets packets (old.held.octets ++ used_in call) new.held.octets × (behind ≡ then_came (told_along old.end packets) before)
Steps old before (using call) new behind =
    (old.end.carrier.ended ≡ None) × IsAccepted call old.end × (new ≡ record old { end = user_does call old.end }) × (behind ≡ past_called call old.end before)

abbrev pub StepsAlong : Holding → Past → List Step → Holding → Past → Type 0
StepsAlong old before [] new behind = (new ≡ old) × (behind ≡ before)
StepsAlong old before (step ∷ steps) new behind =
    (mid : Holding) × (past : Past) × Steps old before step mid past × StepsAlong mid past steps new behind
