-- The effects of the functions that C calls: `old` and `new` are the contents of the slot.
use Rattle.std.specs.Prelude.{◌≡◌, ℕ, ◌≤◌, ◌+◌, ◌-◌, ◌*◌, ◌^◌, min, Bool, true, false, not, ◌==◌, List, [], length, take, Option, Some, None, option_map}
use Rattle.osi_tpkt.specs.Held.{fresh}
use Rattle.osi_class.specs.declared.terms.Local.{Local}
use Rattle.osi_carrier.specs.Calls.{closed_with, unsent_at, backlog_of}
use Rattle.osi_carrier.specs.Growth.{grows}
use Rattle.osi_carrier.specs.Rows.{value_at}
use Rattle.osi_carrier.specs.declared.ends.EndReason.{EndReason}
use Rattle.osi_message.specs.Tokens.{token_octet}
use Rattle.osi_session.specs.Calls.{Call}
use Rattle.osi_session.specs.Listening.{called}
use Rattle.osi_session.specs.Numbers.{from_base}
use Rattle.osi_session.specs.Shown.{Shown, shown_by}
use Rattle.osi_session.specs.declared.faults.CallError.{CallError}
use Rattle.osi_session.specs.declared.faults.CallError.TheVariants.{OutOfMemory}
use Rattle.osi_session.specs.declared.numbers.Numbers.{Numbers}
use Rattle.osi_session.specs.declared.phases.Phase.{Phase}
use Rattle.osi_stack.specs.Calls.{connect_error, refusal, connects, call_error, table_error, Refuses, by_rule, held_by, phase_at, numbers_of, first_shown, without_first, carried, breaks, is_over as over}
use Rattle.osi_stack.specs.Disconnecting.{disconnect_error, disconnects}
use Rattle.osi_stack.specs.Feeding.{Feeds}
use Rattle.osi_stack.specs.Moving.{to_session}
use Rattle.osi_stack.specs.State.{End, fresh_end, session_at, kept_octets}
use Rattle.osi_stack.specs.declared.connecting.Connect.{Connect}
use Rattle.osi_stack.specs.declared.connecting.ConnectError.{ConnectError}
use Rattle.osi_c.specs.Arguments.{IsTerms, SaysTerms, IsOpening, SaysOpening}
use Rattle.osi_c.specs.Codes.{Answer, Done, Closed, BadArgument, Refused, Made, Begun, Unreadable, NoMemory, InUse, Fetching, Fetched, NoEnd, Nothing}
use Rattle.osi_c.specs.declared.arguments.OsiTerms.{OsiTerms}
use Rattle.osi_c.specs.declared.arguments.OsiOpening.{OsiOpening}
use Rattle.osi_c.specs.Traced.{IsUntraced, Takes}
use Rattle.osi_c.specs.declared.handles.Contents.{Contents}
use Rattle.osi_c.specs.declared.traces.Traces.{Traces}

-- the same contents with another end
abbrev pub with_end : Contents → End → Contents
with_end c end = record c { stack = record c.stack { end = end } }

-- ---- making an end

-- a fresh end, with these traces
abbrev pub begun : Bool → Local → Traces → Contents
begun is_caller local traces = record {
  stack = record { end = fresh_end is_caller local; held = fresh };
  last = None;
  reference = 0;
  traces = traces;
}

-- its transport protocol
abbrev pub local_of : Contents → Local
local_of c = c.stack.end.carrier.local

abbrev pub Makes : Bool → OsiTerms → Option Made → Option Contents → Option Contents → Type 0
Makes is_caller terms (Some Begun) None (Some new) =
    IsTerms terms × SaysTerms terms (local_of new) × (new ≡ begun is_caller (local_of new) new.traces) × IsUntraced new.traces
Makes is_caller terms (Some Unreadable) old new = (IsTerms terms → ⊥) × (new ≡ old)
Makes is_caller terms (Some NoMemory) None new = IsTerms terms × (new ≡ None)
Makes is_caller terms (Some InUse) (Some old) new = IsTerms terms × (new ≡ Some old)
Makes is_caller terms answer old new = ⊥

-- ---- requesting a connection

abbrev pub Connects : Connect → Option (Answer ConnectError) → Option Contents → ℕ → Option Contents → Type 0
Connects connect (Some Done) (Some old) reference new =
    (connect_error connect old.stack.end ≡ None) × (reference ≡ old.stack.end.carrier.given + 1)
    × (new ≡ Some (with_end old (connects connect old.stack.end)))
Connects connect (Some (Refused error)) (Some old) reference new =
    (refusal error ≡ connect_error connect old.stack.end) × (new ≡ Some old)
Connects connect (Some Closed) None reference new = new ≡ None
Connects connect answer old reference new = ⊥

abbrev pub Asks : OsiOpening → Option (Answer ConnectError) → Option Contents → ℕ → Option Contents → Type 0
Asks opening (Some BadArgument) old reference new = (IsOpening opening → ⊥) × (new ≡ old)
Asks opening answer old reference new = (connect : Connect) × SaysOpening opening connect × Connects connect answer old reference new

-- ---- a call

abbrev pub Calls : ℕ → Call → Option (Answer CallError) → Option Contents → Option Contents → Type 0
Calls r call (Some Done) (Some old) new =
    (call_error r call old.stack.end ≡ None) × (new ≡ Some (with_end old (to_session r (called call) old.stack.end)))
Calls r call (Some (Refused error)) (Some old) new =
    Refuses error (table_error r call old.stack.end) (call_error r call old.stack.end) × (new ≡ Some old)
Calls r call (Some Closed) None new = new ≡ None
Calls r call answer old new = ⊥

-- a call whose arguments may be out of range
abbrev pub CallsIf : ℕ → Option Call → Option (Answer CallError) → Option Contents → Option Contents → Type 0
CallsIf r (Some call) answer old new = Calls r call answer old new
CallsIf r None (Some BadArgument) old new = new ≡ old
CallsIf r None answer old new = ⊥

-- One connection is given up. If memory runs out it is not, which is possible only if a DR has to be written.
abbrev pub Disconnects : ℕ → Option (Answer CallError) → Option Contents → Option Contents → Type 0
Disconnects r (Some Done) (Some old) new =
    (disconnect_error r old.stack.end ≡ None) × (new ≡ Some (with_end old (disconnects r old.stack.end)))
Disconnects r (Some (Refused error)) (Some old) new =
    (by_rule error ≡ disconnect_error r old.stack.end)
    × (error ≡ OutOfMemory → grows old.stack.end.carrier (closed_with r 128 old.stack.end.carrier) ≡ true) × (new ≡ Some old)
Disconnects r (Some Closed) None new = new ≡ None
Disconnects r answer old new = ⊥

-- ---- octets: a trace of what was received takes those that were used, and one of what was sent those that were taken

abbrev pub FeedsTo : List ℕ → ℕ → Bool → Option (Answer CallError) → Option Contents → Option Contents → Type 0
FeedsTo piece used waits (Some Done) (Some old) (Some new) =
    Feeds old.stack piece (record { used = used; whole = waits }) new.stack × (new.last ≡ old.last) × (new.reference ≡ old.reference)
    × Takes (take used piece) old.traces.received new.traces.received
    × (new.traces ≡ record old.traces { received = new.traces.received })
FeedsTo piece used waits (Some Closed) None new = (used ≡ 0) × (waits ≡ false) × (new ≡ None)
FeedsTo piece used waits answer old new = ⊥

-- the octets to send; none for an empty slot
abbrev pub outgoing : Option Contents → List ℕ
outgoing None = []
outgoing (Some c) = c.stack.end.carrier.outgoing

-- whether there are some
abbrev pub wants_write : Option Contents → Bool
wants_write c = not (length (outgoing c) == 0)

abbrev pub Carries : ℕ → Option (Answer CallError) → Option Contents → Option Contents → Type 0
Carries octets (Some Done) (Some old) (Some new) =
    (octets ≤ length old.stack.end.carrier.outgoing)
    × Takes (take octets old.stack.end.carrier.outgoing) old.traces.sent new.traces.sent
    × (new ≡ record (with_end old (carried octets old.stack.end)) { traces = record old.traces { sent = new.traces.sent } })
Carries octets (Some BadArgument) (Some old) new = (octets ≤ length old.stack.end.carrier.outgoing → ⊥) × (new ≡ Some old)
Carries octets (Some Closed) None new = new ≡ None
Carries octets answer old new = ⊥

abbrev pub Breaks : Option (Answer CallError) → Option Contents → Option Contents → Type 0
Breaks (Some Done) (Some old) new = new ≡ Some (with_end old (breaks old.stack.end))
Breaks (Some Closed) None new = new ≡ None
Breaks answer old new = ⊥

-- ---- indications

-- the indication that C fetched last
abbrev pub told : Option Contents → Option (ℕ × Shown)
told None = None
told (Some c) = option_map (λ i. (c.reference, shown_by i)) c.last

abbrev pub answers_first : Option (ℕ × Shown) → Fetching
answers_first None = Nothing
answers_first (Some first) = Fetched

abbrev pub Fetches : Option Fetching → Option Contents → Option Contents → Type 0
Fetches (Some NoEnd) None new = new ≡ None
Fetches (Some answer) (Some old) (Some new) =
    (answer ≡ answers_first (first_shown old.stack.end.lines)) × (told (Some new) ≡ first_shown old.stack.end.lines)
    × (new.stack ≡ record old.stack { end = record old.stack.end { lines = without_first old.stack.end.lines } })
    × (new.traces ≡ old.traces)
Fetches answer old new = ⊥

-- ---- the states of an end and its connections; an empty slot has none

abbrev pub ended : Option Contents → Option EndReason
ended None = None
ended (Some c) = c.stack.end.carrier.ended

-- whether the byte connection may be closed
abbrev pub is_over : Option Contents → Bool
is_over None = false
is_over (Some c) = over c.stack.end

abbrev pub held : ℕ → Option Contents → ℕ
held r None = 0
held r (Some c) = token_octet (held_by (session_at r c.stack.end))

abbrev pub phase : ℕ → Option Contents → Option Phase
phase r None = None
phase r (Some c) = phase_at r c.stack.end

abbrev pub numbers : ℕ → Option Contents → Numbers
numbers r None = from_base 0
numbers r (Some c) = numbers_of (session_at r c.stack.end)

-- the octets of unfinished packets, TSDUs and data in parts
abbrev pub kept : Option Contents → ℕ
kept None = 0
kept (Some c) = kept_octets c.stack

-- the most that these can be: of a packet, and of a TSDU and data in parts of each live connection
abbrev pub most_kept : Option Contents → ℕ
most_kept None = 0
most_kept (Some c) = 65535 + 2097148 * length c.stack.end.carrier.live

-- the octets of a connection's TSDUs that are not yet among those to send
abbrev pub unsent : ℕ → Option Contents → ℕ
unsent r None = 0
unsent r (Some c) = unsent_at (value_at r c.stack.end.carrier.live)

-- the same for all connections, up to the largest size_t
abbrev pub backlog : Option Contents → ℕ
backlog None = 0
backlog (Some c) = min (backlog_of c.stack.end.carrier.live) (2 ^ 64 - 1)

-- how many connections are requested, open or closing
abbrev pub live : Option Contents → ℕ
live None = 0
live (Some c) = length c.stack.end.carrier.live
