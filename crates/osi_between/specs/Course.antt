-- The states of one connection of class 2 at a caller's and a called end's carrier, from before it is requested until
-- it is gone at both, and the units in flight for it.
use Rattle.std.specs.Prelude.{◌≡◌, ◌≢◌, ℕ, ◌+◌, Bool, true, false, not, List, [], ◌∷◌, ◌++◌, Option, Some, None, ◌⊎◌, ◌≤◌, length, IfSome}
use Rattle.std.specs.List.{flat_map, AllByRecursion}
use Rattle.osi_unit.specs.Octets.{IsOctets}
use Rattle.osi_tpdu.specs.Value.{Value, Connect, request, confirm}
use Rattle.osi_class.specs.Between.{LinkPair}
use Rattle.osi_class.specs.Negotiation.{selected_size}
use Rattle.osi_class.specs.declared.terms.Class.{Class}
use Rattle.osi_class.specs.declared.terms.Class.TheVariants.{Two}
use Rattle.osi_class.specs.declared.terms.Local.{Local}
use Rattle.osi_carrier.specs.References.{references}
use Rattle.osi_carrier.specs.Coming.{IsSendable}
use Rattle.osi_carrier.specs.Happenings.{Happening, opened}
use Rattle.osi_carrier.specs.Negotiation.{proposal_by, acceptance, agreed_size, opened_link}
use Rattle.osi_carrier.specs.Place.{Place, never, was_given, place_at, connection_in}
use Rattle.osi_carrier.specs.State.{asked, linked, closing, State, packets}
use Rattle.osi_between.specs.Addresses.{AreFor, live_after, requests, behind}
use Rattle.osi_between.specs.Meeting.{Meeting, mirror, here, addressed, leaving, told_at, answers_of, Stands}
use Rattle.osi_between.specs.Meeting as meeting
use Rattle.osi_between.specs.Messages.{Message, ask, agree, deny, message, bye, over, messages_to, AreLike}
use Rattle.osi_between.specs.OpenLinks.{AreOpen}
use Rattle.osi_between.specs.Progress.{Progress, not_yet, progress_in, asks_in, class_behind_all, leaves_use, Brings}

pub data Course : Type 0 where
  -- not requested
  unasked : Course
  -- its CR is in flight
  asking : Connect → Course
  -- open at the called end, for this CR, with links as if it were open at both; the CC and what was sent since are in
  -- flight
  accepting : Connect → LinkPair → Course
  -- the same, and since then closed there with this reason
  withdrawing : Connect → LinkPair → ℕ → Course
  -- the caller has had it open too
  met : Meeting → Course

-- the CC for this CR
abbrev pub answer_of : ℕ → Local → Connect → Connect
answer_of n called c = acceptance Two (selected_size c called) c called n

-- at the caller (`true`) or the called end (`false`)
abbrev pub at_end : Bool → ℕ → Course → Place
at_end end n unasked = never
at_end true n (asking c) = was_given (Some asked)
at_end false n (asking c) = never
at_end true n (accepting c p) = was_given (Some asked)
at_end false n (accepting c p) = was_given (Some (linked n p.right))
at_end true n (withdrawing c p reason) = was_given (Some asked)
at_end false n (withdrawing c p reason) = was_given (Some (closing n))
at_end true n (met m) = was_given (here n m)
at_end false n (met m) = was_given (here n (mirror m))

-- the units in flight from the caller, and from the called end with this configuration
abbrev pub from_end : Bool → ℕ → Local → Course → List Value
from_end end n called unasked = []
from_end true n called (asking c) = request c ∷ []
from_end false n called (asking c) = []
from_end true n called (accepting c p) = []
from_end false n called (accepting c p) = confirm n (answer_of n called c) ∷ addressed n p.leftward
from_end true n called (withdrawing c p reason) = []
from_end false n called (withdrawing c p reason) = confirm n (answer_of n called c) ∷ (addressed n p.leftward ++ leaving n reason ∷ [])
from_end true n called (met m) = meeting.out n m
from_end false n called (met m) = meeting.out n (mirror m)

-- no class is agreed yet, or class 2 is
abbrev pub MayTakeTwo : Option Class → Type 0
MayTakeTwo class = (class ≡ None) ⊎ (class ≡ Some Two)

-- a transport selector, if any: at most 32 octets
abbrev pub IsTsap : Option (List ℕ) → Type 0
IsTsap selector = IfSome selector (λ s. (length s ≤ 32) × IsOctets s)

-- a CR that the caller wrote
pub record IsAskedBy (n : ℕ) (caller : Local) (c : Connect) : Type 0 where
  pub class : Option Class
  pub calling : Option (List ℕ)
  pub called : Option (List ℕ)
  pub is : c ≡ proposal_by true caller class calling called n
  pub calling_fits : IsTsap calling
  pub called_fits : IsTsap called

-- open at the called end; the caller's link is the one that the CC opens
pub record IsAccepted (n : ℕ) (caller called : State) (c : Connect) (p : LinkPair) : Type 0 where
  pub asked : IsAskedBy n caller.local c
  pub class : called.class ≡ Some Two
  pub open_links : AreOpen true p
  pub rightward : p.rightward ≡ []
  pub left : p.left ≡ opened_link Two (agreed_size (answer_of n called.local c).parameters.size caller.local) caller.local (answer_of n called.local c).credit

pub record HaveMet (caller called : State) (m : Meeting) : Type 0 where
  pub class : caller.class ≡ Some Two
  pub class_called : called.class ≡ Some Two
  pub stands : Stands m

-- what holds of a connection in this state
abbrev pub Holds : ℕ → State → State → Course → Type 0
Holds n caller called unasked = Unit {0}
Holds n caller called (asking c) = IsAskedBy n caller.local c
Holds n caller called (accepting c p) = IsAccepted n caller called c p
Holds n caller called (withdrawing c p reason) = IsAccepted n caller called c p
Holds n caller called (met m) = HaveMet caller called m

-- what is in flight from an end, as messages
abbrev pub messages_from : Bool → ℕ → Local → Course → List Message
messages_from end n called g = messages_to (connection_in (at_end end n g)) (from_end end n called g) (connection_in (at_end (not end) n g))

-- a CR that is accepted, and a CC
abbrev pub told_asked : ℕ → Message → List Happening
told_asked n ask = opened n ∷ []
told_asked n agree = []
told_asked n (deny reason) = []
told_asked n (message octets) = []
told_asked n (bye reason) = []
told_asked n over = []

abbrev pub told_answer : ℕ → Message → List Happening
told_answer n ask = []
told_answer n agree = opened n ∷ []
told_answer n (deny reason) = []
told_answer n (message octets) = []
told_answer n (bye reason) = []
told_answer n over = []

-- what an arriving message reports to the user of an end
abbrev pub told_opening : ℕ → Place → Message → List Happening
told_opening n never m = told_asked n m
told_opening n (was_given None) m = []
told_opening n (was_given (Some asked)) m = told_answer n m
told_opening n (was_given (Some (linked peer link))) m = told_at n (Some (linked peer link)) m
told_opening n (was_given (Some (closing peer))) m = []

-- What was in flight each way when one end acted: some of what was in flight to it arrived, and its user was told; what
-- was in flight from it stays, except for `lost`, and `put` follows.
pub record CourseCarries (end : Bool) (n : ℕ) (called : Local) (old new : Course) (events : List Happening) (put : List Message) : Type 0 where
  pub arrived : List Message
  pub stays : List Message
  pub lost : List Message
  -- the events report what arrived
  pub told : events ≡ flat_map (told_opening n (at_end end n old)) arrived
  -- what was in flight to it: what arrived, and then what still is in flight
  pub came : AreLike (connection_in (at_end end n new)) (messages_from (not end) n called old) (arrived ++ messages_from (not end) n called new)
  -- what was in flight from it, and what now is
  pub before : messages_from end n called old ≡ stays ++ lost
  pub after : messages_from end n called new ≡ stays ++ put

abbrev pub progress_of : Place → Progress
progress_of never = not_yet
progress_of (was_given connection) = progress_in connection

-- what units mean for a connection that was at this place and is now at that one
abbrev pub BringsTo : Bool → Place → Place → List Value → List Message → List Message → Type 0
BringsTo accepts old new taken arrived put = Brings accepts (progress_of old) (progress_of new) (connection_in old) (connection_in new) taken arrived put

-- Only this connection changed at an end: these units, all for it, were written, and these events reported. The class
-- stays once there is one.
pub record Acts (n : ℕ) (old new : State) (units : List Value) (told : List Happening) : Type 0 where
  pub others : (q : ℕ) → q ≢ n → place_at q new ≡ place_at q old
  pub outgoing : new.outgoing ≡ old.outgoing ++ packets units
  pub events : new.events ≡ old.events ++ told
  pub ended : new.ended ≡ old.ended
  pub local : new.local ≡ old.local
  pub is_caller : new.is_caller ≡ old.is_caller
  pub class : old.class ≡ Some Two → new.class ≡ Some Two
  pub may : MayTakeTwo old.class → MayTakeTwo new.class
  pub all_for : AreFor n units

abbrev pub HoldsAt : Bool → ℕ → State → State → Course → Type 0
HoldsAt true n this other g = Holds n this other g
HoldsAt false n this other g = Holds n other this g

abbrev pub called_local : Bool → State → State → Local
called_local true this other = other.local
called_local false this other = this.local

-- at the called end, the live references are those after the units that were taken
abbrev pub KeepsPlaces : Bool → State → State → List Value → Type 0
KeepsPlaces true old new taken = Unit {0}
KeepsPlaces false old new taken = references new.live ≡ live_after (references old.live) taken

-- the units in which a reference is requested: those that the caller writes, and those that the called end takes
abbrev pub asked_in : Bool → List Value → List Value → List Value
asked_in true written taken = written
asked_in false written taken = taken

-- the answer to a unit: a CC to a CR
abbrev pub answers_at : Place → Value → List Message
answers_at never unit = agree ∷ []
answers_at (was_given connection) unit = answers_of connection unit

-- One end (`this`, then `next`) acted for a connection in the state `old`: these units in flight to it were taken (one,
-- or none), `asked` references were given, and `put` follows what is in flight from it.
pub record CourseMoves (end : Bool) (n : ℕ) (old : Course) (this other next : State) (taken : List Value) (asked : ℕ) (put : List Message) : Type 0 where
  -- the new state; the other end is unchanged
  pub new : Course
  pub place : place_at n next ≡ at_end end n new
  pub there : at_end (not end) n new ≡ at_end (not end) n old
  pub holds : HoldsAt end n next other new
  -- the units that were written, and the events that were reported
  pub units : List Value
  pub events : List Happening
  pub acts : Acts n this next units events
  pub sendable : AllByRecursion IsSendable units
  -- the units in flight, from it and to it
  pub out : from_end end n (called_local end this other) new ≡ from_end end n (called_local end this other) old ++ units
  pub back : from_end (not end) n (called_local end this other) old ≡ taken ++ from_end (not end) n (called_local end this other) new
  -- references: `asked` are given, and each CR has the next one; which ones are live at the called end
  pub given : next.given ≡ this.given + asked
  pub numbers : requests (asked_in end units taken) ≡ behind this.given asked
  pub places : KeepsPlaces end this next taken
  -- in messages: what is in flight, and what the units mean; nothing is lost while the connection stays open
  pub carries : CourseCarries end n (called_local end this other) old new events put
  pub brings : BringsTo true (at_end end n old) (at_end end n new) taken carries.arrived put
  pub keeps : leaves_use (progress_of (at_end end n old)) (progress_of (at_end end n new)) ≡ false → carries.lost ≡ []
  -- so the messages say how many references are given, and which class is agreed
  pub gives : asked ≡ asks_in carries.arrived + asks_in put
  pub settles : next.class ≡ class_behind_all (Some Two) this.class carries.arrived
