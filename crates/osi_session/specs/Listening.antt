-- Everything that can happen to a session, which joins the parts of data that arrive, and the move that it makes.
use Rattle.std.specs.Prelude.{ℕ, Bool, true, false, List, [], ◌∷◌, Option, Some, None, Result, Ok, Err, if◌then◌else◌}
use Rattle.osi_spdu.specs.declared.faults.SpduFault.{SpduFault}
use Rattle.osi_session.specs.declared.phases.Phase.TheVariants.{Connecting, Ended}
use Rattle.osi_session.specs.declared.faults.CallError.{CallError}
use Rattle.osi_session.specs.declared.state.State.{State}
use Rattle.osi_session.specs.Phases.{is_wait_transport}
use Rattle.osi_session.specs.State.{without_tokens}
use Rattle.osi_session.specs.Calls.{Call}
use Rattle.osi_message.specs.Meanings.{Meaning}
use Rattle.osi_message.specs.Reading.{said_at}
use Rattle.osi_message.specs.Words.{Words}
use Rattle.osi_session.specs.Shown.{Shown, RefusedByTransport}
use Rattle.osi_session.specs.Allowed.{Answer, allowed}
use Rattle.osi_session.specs.Respond.{respond_fault, lost}
use Rattle.osi_session.specs.Joining.{Taker, Hearing, kept_in, heard, respond_tsdu}

-- a call of the user; the words of a TSDU, or a TSDU with a fault; and events of the transport connection: it is open,
-- it was refused for this reason, it is lost
pub data Input : Type 0 where
  called : Call → Input
  taken : Words → Input
  unread : SpduFault → Input
  opened : Input
  refused : (reason : ℕ) → Input
  broken : Input

-- the state, the CN that waits for the transport connection, and the octets of an unfinished SSDU
pub record Listener : Type 0 where
  pub state : State
  pub waiting : Option Meaning
  pub joined : Option (List ℕ)

abbrev pub taker_of : Listener → Taker
taker_of l = record { state = l.state; joined = l.joined }

-- the state afterwards, the indications, the unit to send, whether the transport connection is closed, and the error of
-- a refused call
pub record Move : Type 0 where
  pub next : Listener
  pub shown : List Shown
  pub reply : Option Meaning
  pub closes : Bool
  pub error : Option CallError

-- nothing happens
abbrev pub rests : Listener → Move
rests l = record { next = l; shown = []; reply = None; closes = false; error = None }

-- the phase after a move decides whether an unfinished SSDU is kept or dropped
abbrev pub in_state : Listener → State → Listener
in_state l next = record { state = next; waiting = l.waiting; joined = kept_in next.phase l.joined }

-- the move of a call: a call that is refused changes nothing
abbrev pub answered : Listener → Answer → Move
answered l (Ok step) = record (rests (in_state l step.next)) { reply = Some step.sent }
answered l (Err e) = record (rests l) { error = Some e }

-- the move for a received message
abbrev pub moved : Listener → Hearing → Move
moved l h = record {
  next = record { state = h.next.state; waiting = l.waiting; joined = h.next.joined };
  shown = h.shown;
  reply = h.reply;
  closes = h.closes;
  error = None;
}

-- the transport connection is open, and the CN is sent
abbrev pub begun : Listener → Move
begun l = record (rests (record (in_state l (without_tokens Connecting l.state)) { waiting = None })) { reply = l.waiting }

-- there is no transport connection
abbrev pub denied : ℕ → Listener → Move
denied reason l = record (rests (in_state l (without_tokens Ended l.state))) { shown = RefusedByTransport reason ∷ [] }

unfoldable pub react : Listener → Input → Move
react l (called call) = answered l (allowed l.state call)
react l (taken words) = moved l (respond_tsdu (taker_of l) words)
react l (unread fault) = moved l (heard l.joined (respond_fault l.state fault))
react l opened = if is_wait_transport l.state.phase then begun l else rests l
react l (refused reason) = if is_wait_transport l.state.phase then denied reason l else rests l
react l broken = moved l (heard l.joined (lost l.state))

-- the state after one input, and after one followed by others
abbrev pub after_input : Listener → Input → Listener
after_input l input = (react l input).next

abbrev pub after_inputs : Listener → List Input → Listener
after_inputs l [] = l
after_inputs l (input ∷ inputs) = after_inputs (after_input l input) inputs

-- the input that the octets of a TSDU are: units, or a fault
abbrev pub came_as : Result Words SpduFault → Input
came_as (Ok words) = taken words
came_as (Err fault) = unread fault

abbrev pub came : List ℕ → Input
came octets = came_as (said_at octets)

abbrev pub is_opened : Input → Bool
is_opened opened = true
is_opened _ = false
