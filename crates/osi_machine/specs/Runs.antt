-- What two users may rely on after every list of steps of the machine, by what their records tell.
use Rattle.std.specs.Prelude.{◌≡◌, ℕ, ◌<◌, Bool, true, false, ◌&&◌, ◌||◌, List, [], ◌∷◌, ◌++◌, take, Option, Some}
use Rattle.std.specs.List.{AllByRecursion, list_any}
use Rattle.osi_session.specs.Shown.{Lost, PeerAbort, BadUnit}
use Rattle.osi_machine.specs.Floor.{Token, has, Call, Meaning}
use Rattle.osi_machine.specs.Histories.{Item, Point, PointKind, Begins, Agree}
use Rattle.osi_machine.specs.Core.{Offer, Side, Left, Right}
use Rattle.osi_machine.specs.Worlds.{Message, unit, World, Terms, turned, session_of}
use Rattle.osi_machine.specs.Machine.{Ending, told_of_break, no_memory, Step, connects, calls, delivers, Entry, shown_at, Machine, HasNumber, start, step, run, connection_at, end_of}
use Rattle.osi_machine.specs.Views.{Told, told_of, is_side}
use Rattle.osi_machine.specs.Promises.{brings}
use Rattle.osi_machine.specs.Taking.{is_acted_on}

-- a machine reached from the empty one
pub record IsRun (m : Machine) : Type 0 where
  pub agreed : Terms
  pub steps : List Step
  pub numbered : AllByRecursion HasNumber steps
  pub reached : run (start agreed) steps ≡ m

-- a statement about each connection, and about what the records of its left and of its right side tell
abbrev pub OfEach : (World → Told → Told → Type 0) → Machine → Type 0
OfEach P m = (r : ℕ) (w : World) → connection_at r m.worlds ≡ Some w → P w (told_of Left r w.offer m.journal) (told_of Right r w.offer m.journal)

-- no token is held by both
abbrev pub HasOneHolder : World → Told → Told → Type 0
HasOneHolder w left right = (t : Token) → (has (session_of w).held t && has (session_of (turned w)).held t) ≡ false

-- neither user receives a fault, of this side or of the other
abbrev pub ShowNoFault : World → Told → Told → Type 0
ShowNoFault w left right = (left.faulted ≡ false) × (right.faulted ≡ false)

-- one of the two views is a prefix of the other, unless duplex is selected
abbrev pub RecordsAgree : World → Told → Told → Type 0
RecordsAgree w left right = left.duplex ≡ false → right.duplex ≡ false → Agree left.view right.view

-- if either record tells that duplex is selected, the data that each user receives is a prefix of the data that the
-- other asked to send
abbrev pub ShownAsAsked : World → Told → Told → Type 0
ShownAsAsked w left right = (left.duplex || right.duplex) ≡ true → Begins left.indicated right.requested × Begins right.indicated left.requested

-- each point in the view of a side with a number below its V(A) is in the view of the other, after the same items;
-- unless the other has requested a restart and has seen no answer
abbrev pub ConfirmedThere : World → Told → Told → Type 0
ConfirmedThere w own other =
    (before : List Item) (n : ℕ) (kind : PointKind) (octets : List ℕ) → Begins (before ++ Point n kind octets ∷ []) own.view →
    n < w.own.kept.confirmed → other.asking ≡ false → Begins (before ++ Point n kind octets ∷ []) other.view

abbrev pub ConfirmedInBoth : World → Told → Told → Type 0
ConfirmedInBoth w left right = ConfirmedThere w left right × ConfirmedThere (turned w) right left

-- data or a point that is taken is the item of the history at the mark of the side that takes it
abbrev pub TakesItsItem : World → Type 0
TakesItsItem w = (u : Meaning) (ms : List Message) → w.peer.channel ≡ unit u ∷ ms → is_acted_on (session_of w) u ≡ true →
    Begins (take w.own.mark w.history ++ brings (session_of w) u) w.history

abbrev pub TakeTheirItems : World → Told → Told → Type 0
TakeTheirItems w left right = TakesItsItem w × TakesItsItem (turned w)

-- ---- connections are independent

-- A step of one connection changes no other: a new one, a call, a delivery that does not end its side. A break and an
-- end concern all.
pub record AreApart (m : Machine) : Type 0 where
  pub asked : (o : Offer) (q : ℕ) (w : World) → connection_at q m.worlds ≡ Some w → connection_at q (step m (connects o)).worlds ≡ Some w
  pub called : (side : Side) (r q : ℕ) (c : Call) → (q ≡ r → ⊥) → connection_at q (step m (calls side r c)).worlds ≡ connection_at q m.worlds
  pub delivered : (side : Side) (r q : ℕ) (keep : ℕ → ℕ) → (q ≡ r → ⊥) → end_of side (step m (delivers side r keep)) ≡ end_of side m
      → connection_at q (step m (delivers side r keep)).worlds ≡ connection_at q m.worlds

-- ---- an indication of a fault

-- of this side or of the other
abbrev pub is_fault : Entry → Bool
is_fault (shown_at side r (PeerAbort bits)) = true
is_fault (shown_at side r (BadUnit fault)) = true
is_fault e = false

-- no entry of the journal is one, whatever its reference
abbrev pub HasNoFault : Machine → Type 0
HasNoFault m = list_any is_fault m.journal ≡ false

-- ---- a connection that is lost

-- the indication of a loss at a side
abbrev pub is_loss : Side → Entry → Bool
is_loss side (shown_at d r Lost) = is_side side d
is_loss side e = false

-- a side is told of a break, or runs out of memory
abbrev pub loses : Option Ending → Bool
loses (Some told_of_break) = true
loses (Some no_memory) = true
loses e = false

-- a user is told of a loss only if it ended so
abbrev pub LosesByItsEnd : Machine → Type 0
LosesByItsEnd m = (side : Side) → list_any (is_loss side) m.journal ≡ true → loses (end_of side m) ≡ true
