-- The relation that the promises rest on: two ends match the tables of the machine if the state of each end is the
-- tables' state of it, and what is in flight between the two is what the tables have in flight.
use Rattle.std.specs.Prelude.{◌≡◌, ℕ, ◌<◌, ◌≤◌, Bool, true, false, List, [], ◌∷◌, ◌++◌, map, length, Option, Some, None, option_map, is_some, IsSome, IfSome, Result, Ok, Err}
use Rattle.std.specs.List.{AllByRecursion}
use Rattle.osi_tpkt.specs.Held.{Held}
use Rattle.osi_carrier.specs.Place.{Place, never, was_given, place_at}
use Rattle.osi_carrier.specs.Orderly.{RiseFrom}
use Rattle.osi_carrier.specs.Rows.{value_at}
use Rattle.osi_carrier.specs.State.{asked, linked, closing}
use Rattle.osi_carrier.specs.declared.ends.EndReason.{EndReason}
use Rattle.osi_carrier.specs.declared.ends.EndReason.TheVariants as why
use Rattle.osi_carrier.specs.declared.faults.OpenError.TheVariants as opening
use Rattle.osi_between.specs.Between.{Between, Both, AreBetween, last_of, is_cut, under_way}
use Rattle.osi_between.specs.Course.{progress_of}
use Rattle.osi_between.specs.Messages.{MayLackABeginning}
use Rattle.osi_between.specs.Messages as carrier
use Rattle.osi_between.specs.Progress.{Progress, shutting}
use Rattle.osi_between.specs.Terms.{terms_of}
use Rattle.osi_between.specs.Terms as between
use Rattle.osi_class.specs.declared.terms.Class.{Class}
use Rattle.osi_class.specs.declared.terms.Class.TheVariants as classes
use Rattle.osi_machine.specs.Calm.{StaysCalm}
use Rattle.osi_machine.specs.Core.{Offer}
use Rattle.osi_machine.specs.Core as machine
use Rattle.osi_machine.specs.Machine.{Ending, told_of_break, closed_here, no_memory, Refusal, has_ended, negotiating, one_connection, too_many, references_used_up, not_selected, too_long, connect_answered, call_answered, shown_at, ended, connection_at, Step, delivers, breaks, HasNumber}
use Rattle.osi_machine.specs.Machine as entries
use Rattle.osi_machine.specs.Tables.{Seat, Line, Tables, awaits, run, start}
use Rattle.osi_machine.specs.Worlds.{Message, unit, ask, agree, deny, bye, over, Transport, not_yet, waiting, gone, Terms, accepts, denies}
use Rattle.osi_machine.specs.Worlds as worlds
use Rattle.osi_message.specs.InOctets.{IsInOctets}
use Rattle.osi_message.specs.Words.{part_octets}
use Rattle.osi_message.specs.Written.{written}
use Rattle.osi_session.specs.Listening.{Listener}
use Rattle.osi_session.specs.Phases.{is_ended}
use Rattle.osi_stack.specs.Folds.{AllCameAbout}
use Rattle.osi_stack.specs.Hearing.{after_packet}
use Rattle.osi_stack.specs.Links.{Soundness}
use Rattle.osi_stack.specs.Messages.{kept_at}
use Rattle.osi_stack.specs.State.{End, Holding, session_at}
use Rattle.osi_stack.specs.declared.connecting.ConnectError.{ConnectError}
use Rattle.osi_stack.specs.declared.connecting.ConnectError.TheVariants.{Open, NotSelected, TooLong}
use Rattle.osi_pair.specs.Asked.{Asked}
use Rattle.osi_pair.specs.Ends.{TwoEnds, end_at, with_end}
use Rattle.osi_pair.specs.Entries.{Entry, asks, calls, shows, ends}
use Rattle.osi_pair.specs.Telling.{waiting_in}
use Rattle.osi_pair.specs.Words.{Word, whole, part, joins, left_of, IsBegun, AreInOrder}
use Rattle.osi_pair.specs.declared.sides.Side.{Side}
use Rattle.osi_pair.specs.declared.sides.Side.TheVariants.{Left, Right}
use Rattle.osi_session.specs.Kept.{IsJoinedAs}
use Rattle.osi_session.specs.Moves.{Standing}
use Rattle.osi_session.specs.declared.state.State.{State}

-- ---- translations of the vocabulary

abbrev pub side_in : Side → machine.Side
side_in Left = machine.Left
side_in Right = machine.Right

-- the caller's end is the left one
abbrev pub is_caller : Side → Bool
is_caller Left = true
is_caller Right = false

-- two ends of this library end for one of three reasons; the tables have no word for another
abbrev pub ending_in : EndReason → Option Ending
ending_in why.Broken = Some told_of_break
ending_in why.NoMemory = Some no_memory
ending_in why.Closed = Some closed_here
ending_in (why.PeerClosed r) = None
ending_in (why.Fault fault) = None

abbrev pub offer_in : Asked → Offer
offer_in a = record {
  requirements = a.requirements;
  serial = a.serial;
  wishes = a.wishes;
  calling_selector = a.calling_selector;
  called_selector = a.called_selector;
  sizes = a.sizes;
  octets = a.octets;
}

-- an allocation failure is no entry, and the left end is a caller
abbrev pub refusal_in : ConnectError → Option Refusal
refusal_in (Open opening.NotCaller) = None
refusal_in (Open opening.Ended) = Some has_ended
refusal_in (Open opening.Negotiating) = Some negotiating
refusal_in (Open opening.OneConnection) = Some one_connection
refusal_in (Open opening.TooMany) = Some too_many
refusal_in (Open opening.ReferencesUsedUp) = Some references_used_up
refusal_in (Open opening.OutOfMemory) = None
refusal_in NotSelected = Some not_selected
refusal_in TooLong = Some too_long

abbrev pub answer_in : Result ℕ ConnectError → Option (Option Refusal)
answer_in (Ok r) = Some None
answer_in (Err error) = option_map Some (refusal_in error)

-- an entry of the tables, if they have one for it
abbrev pub entry_in : Entry → Option entries.Entry
entry_in (asks wanted answer) = option_map (connect_answered (offer_in wanted)) (answer_in answer)
entry_in (calls side r call error) = Some (call_answered (side_in side) r call error)
entry_in (shows side r shown) = Some (shown_at (side_in side) r shown)
entry_in (ends side r) = option_map (ended (side_in side)) (ending_in r)

abbrev pub terms_in : between.Terms → Terms
terms_in between.by_two = accepts worlds.class_2
terms_in between.by_zero = accepts worlds.class_0
terms_in (between.refusing r) = denies r

abbrev pub class_in : Class → worlds.Class
class_in classes.Zero = worlds.class_0
class_in classes.Two = worlds.class_2

abbrev pub transport_in : Place → Transport
transport_in never = not_yet
transport_in (was_given None) = gone
transport_in (was_given (Some asked)) = waiting
transport_in (was_given (Some (linked peer link))) = worlds.linked
transport_in (was_given (Some (closing peer))) = worlds.closing

-- a unit is sent as the octets of a TSDU
abbrev pub message_in : Message → carrier.Message
message_in (unit m) = carrier.message (written m)
message_in ask = carrier.ask
message_in agree = carrier.agree
message_in (deny r) = carrier.deny r
message_in (bye r) = carrier.bye r
message_in over = carrier.over

-- a part is sent as the octets of a TSDU of its own
abbrev pub word_in : Word → carrier.Message
word_in (whole m) = message_in m
word_in (part place octets) = carrier.message (part_octets place octets)

-- ---- two ends as two carriers

abbrev pub carriers_of : TwoEnds → Both
carriers_of p = record {
  caller = record { state = p.left.end.carrier; held = p.left.held.octets };
  called = record { state = p.right.end.carrier; held = p.right.held.octets };
  reach = option_map (λ r. (r.left, r.right)) p.reach;
}

-- ---- one connection

-- it is closing, or gone
abbrev pub is_parting : Transport → Bool
is_parting worlds.closing = true
is_parting gone = true
is_parting transport = false

-- a session that has joined these octets of an unfinished Data
abbrev pub joining : Option (List ℕ) → Standing → Listener
joining joined s = record { state = s.state; waiting = s.waiting; joined = joined }

-- a side of a connection: its transport connection; and its session with what that has joined, while the connection is
-- live, and as long as the session is kept once it is gone. A side that leaves is over, and one that was never given
-- awaits a CN
pub record IsSeated (n : ℕ) (h : Holding) (seat : Seat) : Type 0 where
  pub joined : Option (List ℕ)
  pub transport : seat.transport ≡ transport_in (place_at n h.end.carrier)
  pub live : is_some (value_at n h.end.carrier.live) ≡ true → session_at n h.end ≡ Some (joining joined seat.session)
  pub kept : (l : Listener) → kept_at n h.end.lines ≡ Some l → l ≡ joining joined seat.session
  pub over_now : is_parting seat.transport ≡ true → is_ended seat.session.state.phase ≡ true
  pub awaiting : seat.transport ≡ not_yet → seat.session ≡ awaits
  -- the CN that waits can be written
  pub octets : IfSome seat.session.waiting IsInOctets

-- The same messages, whole and in order. A receiver that is closing has dropped what it had of a TSDU, and drops what
-- still arrives of it; so the first message in flight to it may be only the last octets of a TSDU.
abbrev pub AreAlike : Progress → List carrier.Message → List carrier.Message → Type 0
AreAlike shutting some others = MayLackABeginning some others
AreAlike taker some others = some ≡ others

-- What is in flight to a receiver, which may have ended: the messages of the tables, and those between the two
-- carriers, by the words in which they are sent. The tables have a Data in flight as long as all the rest of it is in
-- flight. If the rest was cut off, by a break or by the end of its sender, the tables no longer have it; what is left
-- of it may still arrive, and is no fault to the receiving session.
pub record AreUnderWay (reason : Option EndReason) (taker : Progress) (cut : Bool) (Holds : Option (List ℕ) → Type 0) (session : State) (channel : List Message) (sent : List carrier.Message) : Type 0 where
  pub words : List Word
  -- the part of an unfinished Data that is no longer in flight
  pub begun : Option (List ℕ)
  pub alike : reason ≡ None → AreAlike taker (map word_in words) sent
  pub joined : joins begun words ≡ channel
  pub order : AreInOrder begun words
  pub finished : cut ≡ false → left_of begun words ≡ None
  pub calm : IsBegun (left_of begun words) → StaysCalm session channel
  pub held : Holds begun

-- the session that an end keeps has joined the beginning of an unfinished Data, unless it discards data
abbrev pub HasJoined : ℕ → Holding → Option (List ℕ) → Type 0
HasJoined n h begun = (l : Listener) → kept_at n h.end.lines ≡ Some l → IsJoinedAs l.state l.joined begun

-- what is in flight from a side to the other, whose connection is this far
abbrev pub Goes : Side → Side → ℕ → TwoEnds → Between → Progress → State → List Message → Type 0
Goes side other n p b taker session channel =
    AreUnderWay (end_at other p).end.carrier.ended taker (is_cut (is_caller side) (carriers_of p)) (HasJoined n (end_at other p)) session channel (under_way (is_caller side) n (carriers_of p) b)

-- what is in flight from a side to the other
abbrev pub IsUnderWay : Side → Side → ℕ → TwoEnds → Between → (from to : Seat) → Type 0
IsUnderWay side other n p b from to = Goes side other n p b (progress_of (place_at n (last_of (is_caller other) b))) to.session.state from.channel

pub record IsLine (n : ℕ) (p : TwoEnds) (b : Between) (l : Line) : Type 0 where
  pub left : IsSeated n p.left l.own
  pub right : IsSeated n p.right l.peer
  pub rightward : IsUnderWay Left Right n p b l.own l.peer
  pub leftward : IsUnderWay Right Left n p b l.peer l.own

pub record HasLine (n : ℕ) (p : TwoEnds) (b : Between) (t : Tables) : Type 0 where
  pub line : Line
  pub found : connection_at n t.lines ≡ Some line
  pub is : IsLine n p b line

-- ---- an end

-- the invariant of an end while it lasts: it has handled all events of its carrier; its connections and sessions go
-- together; its lines are in the order in which their references were given; and each session is what its inputs made
-- of it
pub record IsInOrder (e : End) : Type 0 where
  pub heard : e.carrier.events ≡ []
  pub sound : Soundness e
  pub rising : RiseFrom 0 e.lines
  pub came : AllCameAbout e.lines

-- ---- the whole relation

-- `b`: what is between the two carriers, from which what is in flight is read
pub record Stands (p : TwoEnds) (b : Between) (t : Tables) : Type 0 where
  -- the invariant of the two carriers
  pub between : AreBetween (terms_of p.left.end.carrier.local p.right.end.carrier.local) (carriers_of p) b
  -- the classes that the called end accepts, and whether the byte connection broke
  pub terms : t.terms ≡ terms_in (terms_of p.left.end.carrier.local p.right.end.carrier.local)
  pub broken : t.broken ≡ is_some p.reach
  -- the left end is the caller
  pub caller : p.left.end.carrier.is_caller ≡ true
  -- each end lasts in both, or ended for one of the three reasons
  pub left_end : option_map Some t.left_end ≡ option_map ending_in p.left.end.carrier.ended
  pub right_end : option_map Some t.right_end ≡ option_map ending_in p.right.end.carrier.ended
  -- the class, from when the caller knows it
  pub known : t.known ≡ option_map class_in p.left.end.carrier.class
  -- the journal, entry by entry
  pub journal : map Some t.journal ≡ map entry_in p.journal
  -- a line for each reference that the caller gave
  pub given : length t.lines ≡ p.left.end.carrier.given
  -- an end keeps the references and the class
  pub given_then : b.caller.given ≡ p.left.end.carrier.given
  pub class_then : b.caller.class ≡ p.left.end.carrier.class
  -- the called end gives no reference that the caller did not
  pub given_back : p.right.end.carrier.given ≤ length t.lines
  -- each line is what the two ends have of its connection
  pub lines : (n : ℕ) → 0 < n → n ≤ length t.lines → HasLine n p b t
  -- no connection of an end that has ended is live
  pub over_left : IsSome p.left.end.carrier.ended → p.left.end.carrier.live ≡ []
  pub over_right : IsSome p.right.end.carrier.ended → p.right.end.carrier.live ≡ []
  -- nor is a session of it kept
  pub lost_right : IsSome p.right.end.carrier.ended → (n : ℕ) → kept_at n p.right.end.lines ≡ None
  -- an end that lasts satisfies its invariant
  pub order_left : p.left.end.carrier.ended ≡ None → IsInOrder p.left.end
  pub order_right : p.right.end.carrier.ended ≡ None → IsInOrder p.right.end
  -- all indications are in the journal
  pub quiet_left : waiting_in p.left.end.lines ≡ []
  pub quiet_right : waiting_in p.right.end.lines ≡ []

-- ---- matching a list of steps

-- Two ends match a list of steps if they match the tables after these steps.
pub record StandsAt (p : TwoEnds) (steps : List Step) : Type 0 where
  pub numbered : AllByRecursion HasNumber steps
  pub now : Between
  pub stands : Stands p now (run (start (terms_in (terms_of p.left.end.carrier.local p.right.end.carrier.local))) steps)

-- they match that list followed by the end of a side that is told of the break
pub record StandsAtEnd (side : Side) (p : TwoEnds) (steps : List Step) : Type 0 where
  pub keep : ℕ → ℕ
  pub stands : StandsAt p (steps ++ entries.ends (side_in side) told_of_break keep ∷ [])

-- a side is told of the break: no step if it had ended before, otherwise its end
abbrev pub StandsAtTold : (before : Option EndReason) → Side → TwoEnds → List Step → Type 0
StandsAtTold (Some reason) side p steps = StandsAt p steps
StandsAtTold None side p steps = StandsAtEnd side p steps

-- they match that list followed by a break, which leaves this much of what was in flight
pub record StandsAtBreak (p : TwoEnds) (steps : List Step) : Type 0 where
  pub keep_left : ℕ → ℕ
  pub keep_right : ℕ → ℕ
  pub stands : StandsAt p (steps ++ breaks keep_left keep_right ∷ [])

-- ---- an end takes the first packet that it holds

-- with what it holds afterwards
abbrev pub packet_taken : Side → List ℕ → Held → TwoEnds → TwoEnds
packet_taken side packet held p = with_end side (record { end = after_packet (end_at side p).end packet; held = held }) p

-- deliveries to a side
abbrev pub AreDeliveries : machine.Side → List Step → Type 0
AreDeliveries side [] = Unit {0}
AreDeliveries side (delivers taker r keep ∷ steps) = (taker ≡ side) × AreDeliveries side steps
AreDeliveries side (step ∷ steps) = ⊥

-- deliveries to a side, and then perhaps its end because memory runs out
abbrev pub AreArrivals : machine.Side → List Step → Type 0
AreArrivals side [] = Unit {0}
AreArrivals side (delivers taker r keep ∷ steps) = (taker ≡ side) × AreArrivals side steps
AreArrivals side (entries.ends taker reason keep ∷ steps) = (taker ≡ side) × (reason ≡ no_memory) × (steps ≡ [])
AreArrivals side (step ∷ steps) = ⊥

-- they match that list followed by what arrives at a side
pub record StandsAtArrivals (side : Side) (p : TwoEnds) (steps : List Step) : Type 0 where
  pub more : List Step
  pub are : AreArrivals (side_in side) more
  pub stands : StandsAt p (steps ++ more)

-- they match that list followed by deliveries to a side
pub record StandsAtDeliveries (side : Side) (p : TwoEnds) (steps : List Step) : Type 0 where
  pub more : List Step
  pub are : AreDeliveries (side_in side) more
  pub stands : StandsAt p (steps ++ more)
