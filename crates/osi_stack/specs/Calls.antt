-- The results and effects of the calls of a user of one end.
use Rattle.std.specs.Prelude.{◌≡◌, ℕ, ◌+◌, Bool, true, false, not, ◌&&◌, ◌||◌, List, [], ◌∷◌, length, drop, nat_le, nat_lt, ◌==◌, Option, Some, None, is_some, option_map, if◌then◌else◌}
use Rattle.osi_tpdu.specs.Limits.{tsap_octets}
use Rattle.osi_carrier.specs.Calls.{may_connect, asks, send_all_error, open_link}
use Rattle.osi_carrier.specs.Rows.{Rows, value_at}
use Rattle.osi_carrier.specs.State.{State as Carrier}
use Rattle.osi_carrier.specs.declared.ends.EndReason.TheVariants.{Broken}
use Rattle.osi_carrier.specs.declared.faults.OpenError.{OpenError}
use Rattle.osi_carrier.specs.declared.faults.OpenError.TheVariants as opening
use Rattle.osi_carrier.specs.declared.faults.SendError.{SendError}
use Rattle.osi_carrier.specs.declared.faults.SendError.TheVariants as sending
use Rattle.osi_message.specs.Meanings.{Meaning, CN}
use Rattle.osi_message.specs.Tokens.{no_token}
use Rattle.osi_message.specs.Parting.{tsdus_of}
use Rattle.osi_message.specs.declared.tokens.Tokens.{Tokens}
use Rattle.osi_spdu.specs.Fields.{unit_bits}
use Rattle.osi_spdu.specs.Sizes.{named_by}
use Rattle.osi_session.specs.Allowed.{serial_for, most_user_data}
use Rattle.osi_session.specs.Calls.{Call}
use Rattle.osi_session.specs.Listening.{Listener, Move, called, react}
use Rattle.osi_session.specs.Numbers.{from_base}
use Rattle.osi_session.specs.Sessions.{asking, is_memory}
use Rattle.osi_session.specs.Shown.{Shown}
use Rattle.osi_session.specs.Sides.{offered}
use Rattle.osi_session.specs.Sizes.{limit_of}
use Rattle.osi_session.specs.Units.{functional_units, is_profile}
use Rattle.osi_session.specs.declared.faults.CallError.{CallError}
use Rattle.osi_session.specs.declared.faults.CallError.TheVariants as error
use Rattle.osi_session.specs.declared.numbers.Numbers.{Numbers}
use Rattle.osi_session.specs.declared.opening.Opening.{Opening}
use Rattle.osi_session.specs.declared.phases.Phase.{Phase}
use Rattle.osi_session.specs.declared.phases.Phase.TheVariants.{Ended}
use Rattle.osi_stack.specs.Hearing.{ends}
use Rattle.osi_stack.specs.State.{Line, End, session_at, session_in, joins}
use Rattle.osi_stack.specs.declared.connecting.Connect.{Connect}
use Rattle.osi_stack.specs.declared.connecting.ConnectError.{ConnectError}
use Rattle.osi_stack.specs.declared.connecting.ConnectError.TheVariants.{Open, NotSelected, TooLong}

-- ---- connect

-- the octets of an address, if one is given
abbrev pub calling_octets : Connect → Option (List ℕ)
calling_octets c = option_map (λ s. s.now) c.calling_selector

abbrev pub called_octets : Connect → Option (List ℕ)
called_octets c = option_map (λ s. s.now) c.called_selector

-- an address has at most 16 octets
abbrev pub is_long_address : Option (List ℕ) → Bool
is_long_address None = false
is_long_address (Some octets) = nat_lt 16 (length octets)

abbrev pub is_long : Connect → Bool
is_long c = is_long_address (calling_octets c) || (is_long_address (called_octets c) || not (nat_le (length c.user_data.now) most_user_data))

-- the units are tested before the lengths
abbrev pub terms_error : Connect → Option ConnectError
terms_error c = if not (is_profile (unit_bits c.requirements)) then Some NotSelected else (if is_long c then Some TooLong else None)

abbrev pub after_open : Option OpenError → Option ConnectError → Option ConnectError
after_open None error = error
after_open (Some e) error = Some (Open e)

-- why no connection is requested: the first reason in the order of the errors
abbrev pub connect_error : Connect → End → Option ConnectError
connect_error c e = after_open (may_connect e.carrier) (terms_error c)

-- an error that the rules give; if they give none, it is an allocation failure
abbrev pub refusal : ConnectError → Option ConnectError
refusal (Open opening.OutOfMemory) = None
refusal error = Some error

-- the request without its addresses
abbrev pub opening_of : Connect → Opening
opening_of c = record {
  requirements = c.requirements;
  serial = c.serial;
  wishes = c.wishes;
  calling_selector = None;
  called_selector = None;
  sizes = c.sizes;
  user_data = c.user_data;
}

-- the CN
abbrev pub asked_for : Connect → Meaning
asked_for c = CN true (unit_bits c.requirements) (serial_for (functional_units (unit_bits c.requirements)) c.serial.number)
    (offered (functional_units (unit_bits c.requirements)) c.wishes) (calling_octets c) (called_octets c) (named_by c.sizes) c.user_data.now

-- the session of a caller, whose CN waits for the transport connection
abbrev pub calls_with : Connect → Listener
calls_with c = record { state = asking (opening_of c); waiting = Some (asked_for c); joined = None }

-- a CR is written, and the connection has a session
abbrev pub connects : Connect → End → End
connects c e = joins (e.carrier.given + 1) (calls_with c)
    (record e { carrier = asks (option_map tsap_octets c.calling_tsap) (option_map tsap_octets c.called_tsap) e.carrier })

-- ---- call

-- the references that were given are the numbers from 1 on
abbrev pub has_given : ℕ → Carrier → Bool
has_given r c = nat_lt 0 r && nat_le r c.given

abbrev pub send_refusal : Option SendError → Option CallError
send_refusal None = None
send_refusal (Some sending.NotOpen) = Some error.Ended
send_refusal (Some sending.TooLong) = Some error.TooLong
send_refusal (Some sending.OutOfMemory) = Some error.OutOfMemory

-- if the carrier does not take what a call sends
abbrev pub reply_refusal : (r limit : ℕ) → Option Meaning → Carrier → Option CallError
reply_refusal r limit None c = None
reply_refusal r limit (Some unit) c = send_refusal (send_all_error (tsdus_of limit unit) (open_link r c))

abbrev pub or_else : Option CallError → Option CallError → Option CallError
or_else None other = other
or_else (Some e) other = Some e

abbrev pub move_refusal : (r limit : ℕ) → Move → Carrier → Option CallError
move_refusal r limit move c = or_else move.error (reply_refusal r limit move.reply c)

-- the error of the session, or if there is none that of the carrier
abbrev pub session_error : Option Listener → Call → Option CallError
session_error None call = Some error.Ended
session_error (Some session) call = (react session (called call)).error

abbrev pub session_refusal : ℕ → Option Listener → Call → Carrier → Option CallError
session_refusal r None call c = Some error.Ended
session_refusal r (Some session) call c = move_refusal r (limit_of session.state) (react session (called call)) c

abbrev pub RefusesBy : Bool → CallError → Option CallError → Option CallError → Type 0
RefusesBy true e first all = first ≡ None
RefusesBy false e first all = all ≡ Some e

-- a refused call; it is `OutOfMemory` only if the session has no error
abbrev pub Refuses : CallError → Option CallError → Option CallError → Type 0
Refuses e first all = RefusesBy (is_memory e) e first all

-- why a call is refused: a reference that was never given, a connection that is gone, the session's error, and a
-- connection that is not open
abbrev pub call_error : ℕ → Call → End → Option CallError
call_error r call e = if not (has_given r e.carrier) then Some error.NoSuchConnection else session_refusal r (session_at r e) call e.carrier

-- the same without the errors of the carrier
abbrev pub table_error : ℕ → Call → End → Option CallError
table_error r call e = if not (has_given r e.carrier) then Some error.NoSuchConnection else session_error (session_at r e) call

-- an error that the rules give; if they give none, it is an allocation failure
abbrev pub by_rule : CallError → Option CallError
by_rule e = if is_memory e then None else Some e

-- ---- what a session holds

abbrev pub held_by : Option Listener → Tokens
held_by None = no_token
held_by (Some session) = session.state.held

abbrev pub phase_of : Option Listener → Phase
phase_of None = Ended
phase_of (Some session) = session.state.phase

-- none for a reference that was never given
abbrev pub phase_at : ℕ → End → Option Phase
phase_at r e = if has_given r e.carrier then Some (phase_of (session_at r e)) else None

abbrev pub numbers_of : Option Listener → Numbers
numbers_of None = from_base 0
numbers_of (Some session) = session.state.numbers

-- ---- the end, and indications

-- an end that has ended stays as it is
abbrev pub breaks : End → End
breaks e = if is_some e.carrier.ended then e else ends Broken e

abbrev pub first_by : ℕ → List Shown → Option (ℕ × Shown) → Option (ℕ × Shown)
first_by r [] other = other
first_by r (shown ∷ waiting) other = Some (r, shown)

-- the oldest indication of the first connection that has one, with its reference
abbrev pub first_shown : Rows Line → Option (ℕ × Shown)
first_shown [] = None
first_shown ((r, line) ∷ lines) = first_by r line.waiting (first_shown lines)

abbrev pub rest_by : ℕ → Line → List Shown → Rows Line → Rows Line → Rows Line
rest_by r line [] lines rest = (r, line) ∷ rest
rest_by r line (shown ∷ waiting) lines rest = (r, record line { waiting = waiting }) ∷ lines

-- the lines without it
abbrev pub without_first : Rows Line → Rows Line
without_first [] = []
without_first ((r, line) ∷ lines) = rest_by r line line.waiting lines (without_first lines)

-- the oldest indication of one connection
abbrev pub TellsOf : Option Shown → ℕ × Line → ℕ × Line → Type 0
TellsOf None old new = (old.1.waiting ≡ []) × (new ≡ old)
TellsOf (Some shown) old new = old ≡ (new.0, record new.1 { waiting = shown ∷ new.1.waiting })

-- Nothing is left to do on the byte connection: no octets are to be sent, and the end has ended, or there were
-- connections and none is live.
abbrev pub is_over : End → Bool
is_over e = (length e.carrier.outgoing == 0) && (is_some e.carrier.ended || (nat_lt 0 e.carrier.given && (length e.carrier.live == 0)))

-- the first octets were sent
abbrev pub carried : ℕ → End → End
carried octets e = record e { carrier = record e.carrier { outgoing = drop octets e.carrier.outgoing } }
