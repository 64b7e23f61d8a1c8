-- The relation between the machine and its tables, and what two users may rely on, read from the tables and the journal
-- alone.
use Rattle.std.specs.Prelude.{◌≡◌, ℕ, ◌<◌, Bool, true, false, ◌&&◌, ◌||◌, List, [], ◌∷◌, ◌++◌, take, Some, None}
use Rattle.std.specs.List.{AllByRecursion, list_any}
use Rattle.osi_session.specs.Respond.{verdict, is_faulty}
use Rattle.osi_session.specs.Sessions.{CanBeSent}
use Rattle.osi_machine.specs.Floor.{State, Token, has, DT, is_over, IsSound, IsSendable}
use Rattle.osi_machine.specs.Histories.{Item, Point, PointKind, Begins, Agree}
use Rattle.osi_machine.specs.Core.{Offer, Side, Left, Right}
use Rattle.osi_machine.specs.Worlds.{Message, unit, bye, over, World, Terms, turned, session_of}
use Rattle.osi_machine.specs.Machine.{Step, Entry, connect_answered, Machine, HasNumber, connection_at}
use Rattle.osi_machine.specs.Tables.{Seat, Line, Tables, start, run, seen_from, end_of}
use Rattle.osi_machine.specs.Runs.{is_fault, is_loss, loses}
use Rattle.osi_machine.specs.Views.{Told, told_of}

-- a side of the tables is the first side of a connection of the machine
pub record IsSeat (w : World) (x : Seat) : Type 0 where
  pub transport : x.transport ≡ w.own.transport
  pub state : x.session.state ≡ session_of w
  pub channel : x.channel ≡ w.own.channel

pub record IsLine (w : World) (l : Line) : Type 0 where
  pub own : IsSeat w l.own
  pub peer : IsSeat (turned w) l.peer

abbrev pub AreLines : List World → List Line → Type 0
AreLines [] [] = Unit {0}
AreLines (w ∷ ws) (l ∷ ls) = IsLine w l × AreLines ws ls
AreLines [] (l ∷ ls) = ⊥
AreLines (w ∷ ws) [] = ⊥

-- the same journal, the same ends, the same class, and the same connections
pub record IsAsTables (m : Machine) (t : Tables) : Type 0 where
  pub terms : t.terms ≡ m.terms
  pub broken : t.broken ≡ m.broken
  pub left_end : t.left_end ≡ m.left_end
  pub right_end : t.right_end ≡ m.right_end
  pub known : t.known ≡ m.known
  pub journal : t.journal ≡ m.journal
  pub lines : AreLines m.worlds t.lines

-- a break discards what follows after this many messages of each channel
abbrev pub cut_line : ℕ → ℕ → Line → Line
cut_line left right l = record {
  own = record l.own { channel = take left l.own.channel };
  peer = record l.peer { channel = take right l.peer.channel };
}

-- ---- what is in flight

-- each unit can be written, so that it is read back as it was meant
abbrev pub AreSendable : List Message → Type 0
AreSendable [] = Unit {0}
AreSendable (unit m ∷ ms) = IsSendable m × AreSendable ms
AreSendable (m ∷ ms) = AreSendable ms

-- the numbers of the session are in order, and the CN that may wait can be sent
pub record IsSoundSeat (x : Seat) : Type 0 where
  pub sound : IsSound x.session.state
  pub waits : CanBeSent x.session.waiting
  pub under_way : AreSendable x.channel

pub record IsSoundLine (l : Line) : Type 0 where
  pub own : IsSoundSeat l.own
  pub peer : IsSoundSeat l.peer

abbrev pub AreSoundLines : Tables → Type 0
AreSoundLines t = (r : ℕ) (l : Line) → connection_at r t.lines ≡ Some l → IsSoundLine l

-- a statement about the session of each side of each connection, and about what is in flight to it
abbrev pub AtEachSide : (State → List Message → Type 0) → Tables → Type 0
AtEachSide P t = (side : Side) (r : ℕ) (l : Line) → connection_at r t.lines ≡ Some l → P (seen_from side l).own.session.state (seen_from side l).peer.channel

-- data that is first in flight to a side is no fault there
abbrev pub IsNoFaultNext : State → List Message → Type 0
IsNoFaultNext s messages = (octets : List ℕ) (ms : List Message) → messages ≡ unit (DT octets) ∷ ms → is_faulty (verdict s (DT octets)) ≡ false

-- the transport connection is closed, or a close is answered
abbrev pub is_leaving : Message → Bool
is_leaving (bye reason) = true
is_leaving over = true
is_leaving m = false

-- if such a message is in flight to a side, the side is over
abbrev pub IsOverWhenLeft : State → List Message → Type 0
IsOverWhenLeft s messages = list_any is_leaving messages ≡ true → is_over s.phase ≡ true

-- ---- what is read from the journal

-- the offer of each connection, by rising reference
abbrev pub offers_in : List Entry → List Offer
offers_in [] = []
offers_in (connect_answered o None ∷ es) = o ∷ offers_in es
offers_in (e ∷ es) = offers_in es

-- tables that are reached from empty ones
pub record IsTableRun (t : Tables) : Type 0 where
  pub agreed : Terms
  pub steps : List Step
  pub numbered : AllByRecursion HasNumber steps
  pub reached : run (start agreed) steps ≡ t

-- a statement about the sessions of both sides of each connection, and about what the records of both tell
abbrev pub OfEachLine : (State → State → Told → Told → Type 0) → Tables → Type 0
OfEachLine P t = (r : ℕ) (l : Line) (o : Offer) → connection_at r t.lines ≡ Some l → connection_at r (offers_in t.journal) ≡ Some o
    → P l.own.session.state l.peer.session.state (told_of Left r o t.journal) (told_of Right r o t.journal)

-- the journal has the offer of each connection
pub record IsOffered (t : Tables) (r : ℕ) : Type 0 where
  pub offer : Offer
  pub found : connection_at r (offers_in t.journal) ≡ Some offer

abbrev pub AreOffered : Tables → Type 0
AreOffered t = (r : ℕ) (l : Line) → connection_at r t.lines ≡ Some l → IsOffered t r

-- no token is held by both
abbrev pub HoldNoneTwice : State → State → Told → Told → Type 0
HoldNoneTwice s p left right = (t : Token) → (has s.held t && has p.held t) ≡ false

-- neither user receives a fault, of this side or of the other
abbrev pub AreNoFaults : State → State → Told → Told → Type 0
AreNoFaults s p left right = (left.faulted ≡ false) × (right.faulted ≡ false)

-- one of the two views is a prefix of the other, unless duplex is selected
abbrev pub AreAgreed : State → State → Told → Told → Type 0
AreAgreed s p left right = left.duplex ≡ false → right.duplex ≡ false → Agree left.view right.view

-- if either record tells that duplex is selected, the data that each user receives is a prefix of the data that the
-- other asked to send
abbrev pub IsShownAsAsked : State → State → Told → Told → Type 0
IsShownAsAsked s p left right = (left.duplex || right.duplex) ≡ true → Begins left.indicated right.requested × Begins right.indicated left.requested

-- each point in the view of a side with a number below its V(A) is in the view of the other, after the same items;
-- unless the other has requested a restart and has seen no answer
abbrev pub IsSeenThere : State → Told → Told → Type 0
IsSeenThere s own other =
    (before : List Item) (n : ℕ) (kind : PointKind) (octets : List ℕ) → Begins (before ++ Point n kind octets ∷ []) own.view →
    n < s.numbers.confirmed → other.asking ≡ false → Begins (before ++ Point n kind octets ∷ []) other.view

abbrev pub IsSeenInBoth : State → State → Told → Told → Type 0
IsSeenInBoth s p left right = IsSeenThere s left right × IsSeenThere p right left

-- no entry of the journal indicates a fault, whatever its reference
abbrev pub TellsNoFault : Tables → Type 0
TellsNoFault t = list_any is_fault t.journal ≡ false

-- a user is told of a loss only if it was told of a break or ran out of memory
abbrev pub LosesAsItEnds : Tables → Type 0
LosesAsItEnds t = (side : Side) → list_any (is_loss side) t.journal ≡ true → loses (end_of side t) ≡ true
