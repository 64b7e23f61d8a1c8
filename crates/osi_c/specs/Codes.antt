-- The meaning of the numbers that C receives.
use Rattle.std.specs.Prelude.{ℕ, List, [], ◌∷◌, Option, Some, None, ◌==◌, if◌then◌else◌}
use Rattle.osi_carrier.specs.declared.ends.EndReason.{EndReason}
use Rattle.osi_carrier.specs.declared.ends.EndReason.TheVariants as end
use Rattle.osi_carrier.specs.declared.ends.CarrierFault.TheVariants as carrier
use Rattle.osi_carrier.specs.declared.faults.OpenError.TheVariants as opening
use Rattle.osi_class.specs.declared.faults.LinkFault.TheVariants as link
use Rattle.osi_session.specs.declared.faults.CallError.{CallError}
use Rattle.osi_session.specs.declared.faults.CallError.TheVariants as error
use Rattle.osi_session.specs.declared.phases.Phase.{Phase}
use Rattle.osi_session.specs.declared.phases.Phase.TheVariants as phase
use Rattle.osi_stack.specs.declared.connecting.ConnectError.{ConnectError}
use Rattle.osi_stack.specs.declared.connecting.ConnectError.TheVariants as connect
use Rattle.osi_tpdu.specs.declared.faults.TpduFault.TheVariants as unit
use Rattle.osi_tpkt.specs.declared.faults.TpktFault.TheVariants as packet

-- one reading and then another, if both succeed
infixl 10 ◌>>=◌
abbrev pub ◌>>=◌ : {A B : Type 0} → Option A → (A → Option B) → Option B
None >>= f = None
Some x >>= f = f x

-- the row of a number in a table
abbrev pub coded : {X : Type 0} → List (ℕ × X) → ℕ → Option X
coded [] code = None
coded (row ∷ rows) code = if code == row.0 then Some row.1 else coded rows code

-- The answer to a call: it is done, the slot is empty, an argument is out of range, or the end refuses it.
pub data Answer (E : Type 0) : Type 0 where
  Done : Answer E
  Closed : Answer E
  BadArgument : Answer E
  Refused : (error : E) → Answer E

abbrev pub call_answers : List (ℕ × Answer CallError)
call_answers =
    (0, Done) ∷ (1, Closed) ∷ (2, BadArgument) ∷ (3, Refused error.OutOfMemory)
    ∷ (10, Refused error.NoSuchConnection) ∷ (11, Refused error.Ended) ∷ (12, Refused error.BadState)
    ∷ (13, Refused error.NotSelected) ∷ (14, Refused error.TokenNotHeld) ∷ (15, Refused error.TokenAlreadyHeld)
    ∷ (16, Refused error.BadNumber) ∷ (17, Refused error.SerialsUsedUp) ∷ (18, Refused error.Empty)
    ∷ (19, Refused error.TooLong) ∷ []

-- the answer to a call of a user
abbrev pub answer_of : ℕ → Option (Answer CallError)
answer_of = coded call_answers

abbrev pub connect_answers : List (ℕ × Answer ConnectError)
connect_answers =
    (0, Done) ∷ (1, Closed) ∷ (2, BadArgument) ∷ (3, Refused (connect.Open opening.OutOfMemory))
    ∷ (11, Refused (connect.Open opening.Ended)) ∷ (13, Refused connect.NotSelected) ∷ (19, Refused connect.TooLong)
    ∷ (20, Refused (connect.Open opening.NotCaller)) ∷ (21, Refused (connect.Open opening.Negotiating))
    ∷ (22, Refused (connect.Open opening.OneConnection)) ∷ (23, Refused (connect.Open opening.TooMany))
    ∷ (24, Refused (connect.Open opening.ReferencesUsedUp)) ∷ []

-- the answer to a request for a connection
abbrev pub asked_of : ℕ → Option (Answer ConnectError)
asked_of = coded connect_answers

-- The answer to making an end.
pub data Made : Type 0 where
  Begun : Made
  Unreadable : Made
  NoMemory : Made
  InUse : Made

abbrev pub made_of : ℕ → Option Made
made_of = coded ((0, Begun) ∷ (2, Unreadable) ∷ (3, NoMemory) ∷ (4, InUse) ∷ [])

-- The answer to fetching an indication.
pub data Fetching : Type 0 where
  Fetched : Fetching
  NoEnd : Fetching
  Nothing : Fetching

abbrev pub fetched_of : ℕ → Option Fetching
fetched_of = coded ((0, Fetched) ∷ (1, NoEnd) ∷ (5, Nothing) ∷ [])

abbrev pub phases : List (ℕ × Option Phase)
phases =
    (0, None) ∷ (1, Some phase.WaitTransport) ∷ (2, Some phase.WaitCn) ∷ (3, Some phase.Connecting)
    ∷ (4, Some phase.Answering) ∷ (5, Some phase.Ready) ∷ (6, Some phase.MajorAsked) ∷ (7, Some phase.MajorDue)
    ∷ (8, Some phase.Releasing) ∷ (9, Some phase.ReleaseDue) ∷ (10, Some phase.Restarting)
    ∷ (11, Some phase.RestartDue) ∷ (12, Some phase.Aborting) ∷ (13, Some phase.Ended) ∷ []

-- the phase of a connection; none for one that was never given
abbrev pub phase_of : ℕ → Option (Option Phase)
phase_of = coded phases

-- the reasons of an end, by number; `detail` is the number that comes with the reason
abbrev pub reasons : ℕ → List (ℕ × Option EndReason)
reasons detail =
    (0, None) ∷ (1, Some end.Broken) ∷ (2, Some end.Closed) ∷ (3, Some (end.PeerClosed detail)) ∷ (4, Some end.NoMemory)
    ∷ (5, Some (end.Fault carrier.UnknownReference)) ∷ (6, Some (end.Fault carrier.BadAnswer))
    ∷ (7, Some (end.Fault carrier.UnexpectedUnit))
    ∷ (10, Some (end.Fault (carrier.Tpkt (packet.BadVersion detail))))
    ∷ (11, Some (end.Fault (carrier.Tpkt (packet.BadLength detail))))
    ∷ (12, Some (end.Fault (carrier.Tpkt packet.OutOfMemory)))
    ∷ (13, Some (end.Fault (carrier.Tpdu (unit.BadLi detail))))
    ∷ (14, Some (end.Fault (carrier.Tpdu (unit.UnknownCode detail))))
    ∷ (15, Some (end.Fault (carrier.Tpdu (unit.BadParameterLength detail))))
    ∷ (16, Some (end.Fault (carrier.Tpdu (unit.BadParameterValue detail))))
    ∷ (17, Some (end.Fault (carrier.Tpdu (unit.DuplicateParameter detail))))
    ∷ (18, Some (end.Fault (carrier.Link link.WrongForm)))
    ∷ (19, Some (end.Fault (carrier.Link link.OutOfSequence)))
    ∷ (20, Some (end.Fault (carrier.Link link.CreditReduced)))
    ∷ (21, Some (end.Fault (carrier.Link link.TsduTooLong)))
    ∷ (22, Some (end.Fault (carrier.Link link.OutOfMemory))) ∷ []

-- why an end has ended; none if it has not
abbrev pub reason_of : ℕ → ℕ → Option (Option EndReason)
reason_of code detail = coded (reasons detail) code

-- the detail of the reason: the peer's reason, or the offset of an octet; 0 if there is none
abbrev pub detail_of : Option EndReason → ℕ
detail_of (Some (end.PeerClosed reason)) = reason
detail_of (Some (end.Fault (carrier.Tpkt (packet.BadVersion at)))) = at
detail_of (Some (end.Fault (carrier.Tpkt (packet.BadLength at)))) = at
detail_of (Some (end.Fault (carrier.Tpdu (unit.BadLi at)))) = at
detail_of (Some (end.Fault (carrier.Tpdu (unit.UnknownCode at)))) = at
detail_of (Some (end.Fault (carrier.Tpdu (unit.BadParameterLength at)))) = at
detail_of (Some (end.Fault (carrier.Tpdu (unit.BadParameterValue at)))) = at
detail_of (Some (end.Fault (carrier.Tpdu (unit.DuplicateParameter at)))) = at
detail_of _ = 0
