-- Everything that can happen to a session over whole messages, and the move that it makes.
use Rattle.std.specs.Prelude.{ℕ, Bool, true, false, List, [], ◌∷◌, Option, Some, None, Ok, Err, if◌then◌else◌}
use Rattle.osi_spdu.specs.declared.faults.SpduFault.{SpduFault}
use Rattle.osi_session.specs.declared.phases.Phase.TheVariants.{Connecting, Ended}
use Rattle.osi_session.specs.declared.faults.CallError.{CallError}
use Rattle.osi_session.specs.declared.state.State.{State}
use Rattle.osi_session.specs.Phases.{is_wait_transport}
use Rattle.osi_session.specs.State.{without_tokens}
use Rattle.osi_session.specs.Calls.{Call}
use Rattle.osi_message.specs.Meanings.{Meaning}
use Rattle.osi_message.specs.Reading.{Said}
use Rattle.osi_session.specs.Shown.{Shown, RefusedByTransport}
use Rattle.osi_session.specs.Allowed.{Answer, allowed}
use Rattle.osi_session.specs.Respond.{Outcome, respond, respond_fault, lost}

-- a call of the user; the units of a TSDU, or a TSDU with a fault; and events of the transport connection: it is open,
-- it was refused for this reason, it is lost
pub data Input : Type 0 where
  called : Call → Input
  taken : Said → Input
  unread : SpduFault → Input
  opened : Input
  refused : (reason : ℕ) → Input
  broken : Input

-- the state, and the CN that waits for the transport connection
pub record Standing : Type 0 where
  pub state : State
  pub waiting : Option Meaning

-- the state afterwards, the indications, the unit to send, whether the transport connection is closed, and the error of
-- a refused call
pub record Move : Type 0 where
  pub next : Standing
  pub shown : List Shown
  pub reply : Option Meaning
  pub closes : Bool
  pub error : Option CallError

-- nothing happens
abbrev pub rests : Standing → Move
rests s = record { next = s; shown = []; reply = None; closes = false; error = None }

abbrev pub in_state : Standing → State → Standing
in_state s next = record s { state = next }

-- the move of a call: a call that is refused changes nothing
abbrev pub answered : Standing → Answer → Move
answered s (Ok step) = record (rests (in_state s step.next)) { reply = Some step.sent }
answered s (Err e) = record (rests s) { error = Some e }

-- the move of an outcome
abbrev pub moved : Standing → Outcome → Move
moved s o = record { next = in_state s o.next; shown = o.shown; reply = o.reply; closes = o.closes; error = None }

-- the transport connection is open, and the CN is sent
abbrev pub begun : Standing → Move
begun s = record (rests (record { state = without_tokens Connecting s.state; waiting = None })) { reply = s.waiting }

-- there is no transport connection
abbrev pub denied : ℕ → Standing → Move
denied reason s = record (rests (in_state s (without_tokens Ended s.state))) { shown = RefusedByTransport reason ∷ [] }

unfoldable pub react : Standing → Input → Move
react s (called call) = answered s (allowed s.state call)
react s (taken said) = moved s (respond s.state said)
react s (unread fault) = moved s (respond_fault s.state fault)
react s opened = if is_wait_transport s.state.phase then begun s else rests s
react s (refused reason) = if is_wait_transport s.state.phase then denied reason s else rests s
react s broken = moved s (lost s.state)

-- the state after one input, and after one followed by others
abbrev pub after_input : Standing → Input → Standing
after_input s input = (react s input).next

abbrev pub after_inputs : Standing → List Input → Standing
after_inputs s [] = s
after_inputs s (input ∷ inputs) = after_inputs (after_input s input) inputs

abbrev pub is_opened : Input → Bool
is_opened opened = true
is_opened _ = false
