-- The results and effects of the calls of a carrier's user, and the units that it puts by them.
use Rattle.std.specs.Prelude.{◌≡◌, ℕ, ◌+◌, ◌<◌, ◌^◌, Bool, List, [], ◌∷◌, ◌++◌, length, nat_le, nat_lt, Option, Some, None, is_some, not, if◌then◌else◌}
use Rattle.std.specs.List.{list_any, sum_by}
use Rattle.osi_tpdu.specs.Value.{Value, request, disconnect}
use Rattle.osi_class.specs.Giving.{one_by_one}
use Rattle.osi_class.specs.Link.{Standing, next, with_tsdu, with_tsdus, unsent_octets}
use Rattle.osi_class.specs.Tsdus.{octets_of_tsdus}
use Rattle.osi_class.specs.declared.terms.Class.{Class}
use Rattle.osi_class.specs.declared.terms.Class.TheVariants.{Zero, Two}
use Rattle.osi_class.specs.declared.terms.Local.{Local}
use Rattle.osi_carrier.specs.Happenings.{Happening}
use Rattle.osi_carrier.specs.Negotiation.{proposal}
use Rattle.osi_carrier.specs.Pump.{written_by, written_for}
use Rattle.osi_carrier.specs.React.{pumps}
use Rattle.osi_carrier.specs.Rows.{Rows, value_at}
use Rattle.osi_carrier.specs.State.{Connection, asked, linked, closing, TsapIds, State, writes, joins, moves, ends}
use Rattle.osi_carrier.specs.declared.ends.EndReason.{EndReason}
use Rattle.osi_carrier.specs.declared.ends.EndReason.TheVariants.{Closed}
use Rattle.osi_carrier.specs.declared.faults.OpenError.{OpenError}
use Rattle.osi_carrier.specs.declared.faults.OpenError.TheVariants.{NotCaller, Ended, Negotiating, OneConnection, TooMany, ReferencesUsedUp, OutOfMemory}
use Rattle.osi_carrier.specs.declared.faults.SendError.{SendError}
use Rattle.osi_carrier.specs.declared.faults.SendError.TheVariants.{NotOpen, TooLong, OutOfMemory as NoRoom}

-- a fresh carrier
abbrev pub fresh_state : Bool → Local → State
fresh_state is_caller local = record { is_caller = is_caller; local = local; class = None; given = 0; live = []; tsaps = []; outgoing = []; events = []; ended = None }

-- ---- connect

-- by the agreed class: the first answer is awaited, or class 0 has its one connection
abbrev pub class_error : Option Class → Rows Connection → Option OpenError
class_error None live = if nat_lt 0 (length live) then Some Negotiating else None
class_error (Some Zero) live = Some OneConnection
class_error (Some Two) live = None

abbrev pub or_else : Option OpenError → Option OpenError → Option OpenError
or_else None other = other
or_else (Some e) other = Some e

abbrev pub room_error : State → Option OpenError
room_error s = if nat_le 64 (length s.live) then Some TooMany else (if nat_le 65535 s.given then Some ReferencesUsedUp else None)

-- why no connection can be requested now: the first reason in the order of the errors
abbrev pub may_connect : State → Option OpenError
may_connect s =
    if not s.is_caller then Some NotCaller
    else (if is_some s.ended then Some Ended
    else or_else (class_error s.class s.live) (room_error s))

-- an error that the rules give; if they give none, it is an allocation failure
abbrev pub open_error : OpenError → Option OpenError
open_error OutOfMemory = None
open_error NotCaller = Some NotCaller
open_error Ended = Some Ended
open_error Negotiating = Some Negotiating
open_error OneConnection = Some OneConnection
open_error TooMany = Some TooMany
open_error ReferencesUsedUp = Some ReferencesUsedUp

-- the next reference is given, and a CR is put
abbrev pub put_asking : Option (List ℕ) → Option (List ℕ) → State → List Value
put_asking calling called s = request (proposal s.local s.class calling called (s.given + 1)) ∷ []

abbrev pub asks : Option (List ℕ) → Option (List ℕ) → State → State
asks calling called s =
    writes (put_asking calling called s)
    (joins (s.given + 1) asked (record { calling = calling; called = called }) (record s { given = s.given + 1 }))

-- ---- send and close

-- the peer's reference and the link of an open connection
abbrev pub link_of : Option Connection → Option (ℕ × Standing)
link_of None = None
link_of (Some asked) = None
link_of (Some (linked peer link)) = Some (peer, link)
link_of (Some (closing peer)) = None

-- none after the end
abbrev pub open_link : ℕ → State → Option (ℕ × Standing)
open_link r s = if is_some s.ended then None else link_of (value_at r s.live)

-- a TSDU has at most 1,048,576 octets
abbrev pub length_error : List ℕ → Option SendError
length_error tsdu = if nat_lt 1048576 (length tsdu) then Some TooLong else None

-- why a TSDU is not sent: the first reason in the order of the errors
abbrev pub send_error : List ℕ → Option (ℕ × Standing) → Option SendError
send_error tsdu None = Some NotOpen
send_error tsdu (Some link) = length_error tsdu

-- why TSDUs are not sent together
abbrev pub lengths_error : List (List ℕ) → Option SendError
lengths_error tsdus = if list_any (λ tsdu. nat_lt 1048576 (length tsdu)) tsdus then Some TooLong else None

abbrev pub send_all_error : List (List ℕ) → Option (ℕ × Standing) → Option SendError
send_all_error tsdus None = Some NotOpen
send_all_error tsdus (Some link) = lengths_error tsdus

-- why a connection is not closed
abbrev pub close_error : Option (ℕ × Standing) → Option SendError
close_error None = Some NotOpen
close_error (Some link) = None

-- an error that the rules give; if they give none, it is an allocation failure
abbrev pub call_error : SendError → Option SendError
call_error NoRoom = None
call_error NotOpen = Some NotOpen
call_error TooLong = Some TooLong

-- a TSDU is handed in, and everything that may be sent now is put
abbrev pub sent_on : ℕ → List ℕ → Option (ℕ × Standing) → State → State
sent_on r tsdu None s = s
sent_on r tsdu (Some (peer, link)) s = pumps r peer (with_tsdu link tsdu) s

abbrev pub put_sent : List ℕ → Option (ℕ × Standing) → List Value
put_sent tsdu None = []
put_sent tsdu (Some (peer, link)) = written_by peer (with_tsdu link tsdu)

abbrev pub sent : ℕ → List ℕ → State → State
sent r tsdu s = sent_on r tsdu (open_link r s) s

-- TSDUs that are sent together have the effect of sending them one after the other
abbrev pub sent_all : ℕ → List (List ℕ) → State → State
sent_all r [] s = s
sent_all r (tsdu ∷ tsdus) s = sent_all r tsdus (sent r tsdu s)

abbrev pub put_together : ℕ → List (List ℕ) → State → List Value
put_together r [] s = []
put_together r (tsdu ∷ tsdus) s = put_sent tsdu (open_link r s) ++ put_together r tsdus (sent r tsdu s)

-- the effect of that on an open connection
abbrev pub pumps_all : ℕ → ℕ → Standing → List (List ℕ) → State → State
pumps_all r peer link tsdus s = moves r (linked peer (one_by_one link tsdus)) (writes (written_for peer link tsdus) s)

-- A TSDU that is handed in now only waits at its link: none of it may be sent now.
pub record WaitsAlone (link : Standing) (tsdu : List ℕ) : Type 0 where
  pub alone : link.ends.unsent ≡ []
  pub none : next (with_tsdu link tsdu) ≡ None

-- at the link of an open connection
abbrev pub WaitsOn : Option (ℕ × Standing) → List ℕ → Type 0
WaitsOn None tsdu = ⊥
WaitsOn (Some (peer, link)) tsdu = WaitsAlone link tsdu

-- TSDUs that are handed in together only wait at their link: none of them may be sent now. Their octets can be counted.
pub record WaitTogether (link : Standing) (tsdus : List (List ℕ)) : Type 0 where
  pub alone : link.ends.unsent ≡ []
  pub none : next (with_tsdus link tsdus) ≡ None
  pub counted : octets_of_tsdus tsdus < 2 ^ 64

-- at the link of an open connection
abbrev pub AllWaitOn : Option (ℕ × Standing) → List (List ℕ) → Type 0
AllWaitOn None tsdus = ⊥
AllWaitOn (Some (peer, link)) tsdus = WaitTogether link tsdus

-- in class 2 a DR asks the peer to close the connection; in class 0 the carrier ends
abbrev pub closes : ℕ → ℕ → ℕ → Option Class → State → State
closes r peer reason (Some Zero) s = ends Closed s
closes r peer reason held s = writes (disconnect peer r reason [] ∷ []) (moves r (closing peer) s)

abbrev pub put_closed : (r reason peer : ℕ) → Option Class → List Value
put_closed r reason peer (Some Zero) = []
put_closed r reason peer held = disconnect peer r reason [] ∷ []

abbrev pub closed_on : ℕ → ℕ → Option (ℕ × Standing) → State → State
closed_on r reason None s = s
closed_on r reason (Some (peer, link)) s = closes r peer reason s.class s

abbrev pub put_closing : (r reason : ℕ) → Option (ℕ × Standing) → Option Class → List Value
put_closing r reason None held = []
put_closing r reason (Some (peer, link)) held = put_closed r reason peer held

abbrev pub closed_with : ℕ → ℕ → State → State
closed_with r reason s = closed_on r reason (open_link r s) s

-- ---- the end, what is kept, and what is unsent

-- an end that has ended stays as it is
abbrev pub ended_by : EndReason → State → State
ended_by reason s = if is_some s.ended then s else ends reason s

-- the octets of the unfinished TSDUs of open connections
abbrev pub begun_by : Connection → ℕ
begun_by asked = 0
begun_by (linked peer link) = length link.ends.joining.begun
begun_by (closing peer) = 0

abbrev pub kept_in : Rows Connection → ℕ
kept_in live = sum_by (λ row. begun_by row.1) live

-- the octets of TSDUs that were handed in at a connection and are not yet in units
abbrev pub unsent_by : Connection → ℕ
unsent_by asked = 0
unsent_by (linked peer link) = unsent_octets link
unsent_by (closing peer) = 0

abbrev pub unsent_at : Option Connection → ℕ
unsent_at None = 0
unsent_at (Some connection) = unsent_by connection

-- those of all connections
abbrev pub backlog_of : Rows Connection → ℕ
backlog_of live = sum_by (λ row. unsent_by row.1) live

-- ---- addresses

-- the transport selectors that the CR of a live connection names
abbrev pub tsaps_at : ℕ → State → Option TsapIds
tsaps_at r s = value_at r s.tsaps

-- ---- events

-- the oldest event is reported; none exactly if none is queued
abbrev pub Tells : Option Happening → State → State → Type 0
Tells None old new = (old.events ≡ []) × (new ≡ old)
Tells (Some event) old new = old ≡ record new { events = event ∷ new.events }
