-- The state with which a session begins, and the results of its calls.
use Rattle.osi_spdu.specs.Fields.{unit_bits}
use Rattle.osi_spdu.specs.Sizes.{named_by, no_sizes}
use Rattle.std.specs.Prelude.{◌≡◌, ℕ, Bool, true, false, not, List, [], ◌∷◌, ◌++◌, length, map, Option, Some, None, option_map, Result, Ok, Err, IfOk, OnOk, OnErr, if◌then◌else◌, nat_le, nat_lt, is_none, ◌&&◌, ◌||◌}
use Rattle.osi_spdu.specs.declared.settings.Wish.TheVariants.{Asker}
use Rattle.osi_spdu.specs.declared.faults.SpduFault.{SpduFault}
use Rattle.osi_spdu.specs.Known.{Units}
use Rattle.osi_spdu.specs.Reading.{tsdu_at}
use Rattle.osi_message.specs.Meanings.{Meaning}
use Rattle.osi_message.specs.Reading.{said_by_units}
use Rattle.osi_message.specs.Words.{Words, says}
use Rattle.osi_message.specs.Sendable.{IsSendable}
use Rattle.osi_message.specs.Tokens.{no_token}
use Rattle.osi_message.specs.Parting.{tsdus_of, in_one}
use Rattle.osi_session.specs.declared.phases.Phase.TheVariants.{WaitTransport, WaitCn}
use Rattle.osi_session.specs.declared.faults.CallError.{CallError}
use Rattle.osi_session.specs.declared.faults.CallError.TheVariants as error
use Rattle.osi_session.specs.declared.state.State.{State}
use Rattle.osi_session.specs.declared.taken.Taken.{Taken}
use Rattle.osi_session.specs.declared.opening.Opening.{Opening}
use Rattle.osi_session.specs.Units.{no_units, functional_units, is_profile}
use Rattle.osi_session.specs.Sides.{offered}
use Rattle.osi_session.specs.Numbers.{from_base}
use Rattle.osi_session.specs.Shown.{Shown, shown_by}
use Rattle.osi_session.specs.Openings.{asked_for}
use Rattle.osi_session.specs.Allowed.{base_for, most_user_data, allowed}
use Rattle.osi_session.specs.Respond.{is_nil}
use Rattle.osi_session.specs.Calls.{Call}
use Rattle.osi_session.specs.Listening.{Listener, Move}
use Rattle.osi_session.specs.Joining.{joined_octets}
use Rattle.osi_session.specs.Sizes.{limit_of}
use Rattle.osi_session.specs.Steps.{shown_list}

-- ---- what a call answers

abbrev pub is_memory : CallError → Bool
is_memory error.OutOfMemory = true
is_memory _ = false

abbrev pub RefusedBy : Bool → CallError → Option CallError → Type 0
RefusedBy true e error = error ≡ None
RefusedBy false e error = error ≡ Some e

-- an error of the table, or an allocation failure if the table has none
abbrev pub Refused : CallError → Option CallError → Type 0
Refused e error = RefusedBy (is_memory e) e error

-- if a unit is sent, it can be
abbrev pub CanBeSent : Option Meaning → Type 0
CanBeSent None = Unit {0}
CanBeSent (Some m) = IsSendable m

-- ---- a plan

-- the state in which a call is planned, the state after it, and the octets of the TSDUs to send
pub record Planned : Type 0 where
  pub was : State
  pub next : State
  pub sent : List (List ℕ)

-- the plan of a call that is accepted in the state in which it is planned
abbrev pub IsPlanOf : Call → Planned → Type 0
IsPlanOf c plan = (m : Meaning) × (allowed plan.was c ≡ Ok (record { next = plan.next; sent = m })) × (plan.sent ≡ tsdus_of (limit_of plan.was) m)

-- ---- what a session begins with

-- the calling end, before the transport connection is open
abbrev pub asking : Opening → State
asking o = record {
  phase = WaitTransport;
  is_caller = true;
  units = functional_units (unit_bits o.requirements);
  wishes = offered (functional_units (unit_bits o.requirements)) o.wishes;
  held = no_token;
  proposed = base_for (functional_units (unit_bits o.requirements)) o.serial.number;
  base = 0;
  numbers = from_base 0;
  sizes = named_by o.sizes;
}

-- the error of an opening: functional units that can't be selected together, or user data that is too long
abbrev pub refusal_of : Opening → Option CallError
refusal_of o =
    if not (is_profile (unit_bits o.requirements)) then Some error.NotSelected
    else if not (nat_le (length o.user_data.now) most_user_data) then Some error.TooLong
    else None

-- a caller: the CN waits for the transport connection
abbrev pub opens : Opening → Listener
opens o = record { state = asking o; waiting = Some (asked_for o); joined = None }

-- the called end awaits a CN
abbrev pub awaiting : State
awaiting = record {
  phase = WaitCn;
  is_caller = false;
  units = no_units;
  wishes = record { data_token = Asker; minor = Asker; major = Asker; release = Asker };
  held = no_token;
  proposed = 0;
  base = 0;
  numbers = from_base 0;
  sizes = no_sizes;
}

abbrev pub awaits : Listener
awaits = record { state = awaiting; waiting = None; joined = None }

-- ---- the CN that waits, in octets

abbrev pub lone : Words → Option Meaning
lone (says u ∷ []) = Some u
lone _ = None

abbrev pub lone_of : Result Units SpduFault → Option Meaning
lone_of (Ok units) = lone (said_by_units units)
lone_of (Err fault) = None

-- the unit of a TSDU, if it is a single unit
unfoldable pub unit_in : List (List ℕ) → Option Meaning
unit_in (octets ∷ []) = lone_of (tsdu_at octets)
unit_in _ = None

-- ---- a TSDU that is taken

-- the indications, in order
abbrev pub shown_in : Taken → List Shown
shown_in t = shown_list t.first ++ map shown_by t.more.items

-- nothing is indicated and nothing sent
abbrev pub is_quiet : Move → Bool
is_quiet m = is_nil m.shown && is_none m.reply

-- something is indicated or sent, or more octets are joined than before
abbrev pub takes_memory : Listener → Move → Bool
takes_memory old m = not (is_quiet m) || nat_lt (length (joined_octets old.joined)) (length (joined_octets m.next.joined))

-- A TSDU that is taken makes this move; an allocation failure changes nothing, and is possible only if something is
-- indicated, sent or joined.
pub record Takes {E : Type 0} (result : Result Taken E) (move : Move) (old new : Listener) : Type 0 where
  pub state : OnOk result (new ≡ move.next)
  pub shown : IfOk result (λ t. shown_in t ≡ move.shown)
  pub first : IfOk result (λ t. t.first ≡ None → t.more.items ≡ [])
  pub reply : IfOk result (λ t. t.reply ≡ option_map in_one move.reply)
  pub closes : IfOk result (λ t. t.closes ≡ move.closes)
  pub err : OnErr result (new ≡ old)
  pub memory : OnErr result (takes_memory old move ≡ true)
