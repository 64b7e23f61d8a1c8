-- The invariant of two carriers that both support class 2, and the units between them.
use Rattle.std.specs.Prelude.{◌≡◌, ◌≢◌, ℕ, ◌+◌, ◌<◌, Bool, true, false, not, List, [], ◌∷◌, ◌++◌, length, Some, None}
use Rattle.std.specs.List.{flat_map, AllByRecursion}
use Rattle.osi_tpdu.specs.Value.{Value, request, confirm, disconnect, disconnected, data0, data2, acknowledge, error}
use Rattle.osi_class.specs.Link.{Standing}
use Rattle.osi_class.specs.declared.terms.Class.TheVariants.{Two}
use Rattle.osi_carrier.specs.References.{references}
use Rattle.osi_carrier.specs.Coming.{IsSendable}
use Rattle.osi_carrier.specs.Place.{place_at, connection_in}
use Rattle.osi_carrier.specs.Orderly.{IsOrderly}
use Rattle.osi_carrier.specs.State.{State, packets}
use Rattle.osi_between.specs.Addresses.{AreFor, reference_of, units_of, live_behind, requests, behind}
use Rattle.osi_between.specs.Course.{Course, at_end, from_end, MayTakeTwo, HoldsAt, called_local, told_opening, progress_of, BringsTo}
use Rattle.osi_between.specs.Messages.{Message, messages_to, AreLike}
use Rattle.osi_between.specs.Progress.{references_for, class_behind_all, leaves_use}

-- The state of a connection at an end (`this`) and at the other, with these units in flight from this end and to it.
-- The called end gives the connection the number that the caller gave.
pub record StandsBetween (end : Bool) (n : ℕ) (this other : State) (going coming : List Value) : Type 0 where
  pub course : Course
  pub place : place_at n this ≡ at_end end n course
  pub place_there : place_at n other ≡ at_end (not end) n course
  pub out : units_of n going ≡ from_end end n (called_local end this other) course
  pub back : units_of n coming ≡ from_end (not end) n (called_local end this other) course
  pub holds : HoldsAt end n this other course

-- for each CR there is a place
abbrev pub HasPlace : List ℕ → Value → Type 0
HasPlace refs (request c) = length refs < 64
HasPlace refs (confirm destination c) = Unit {0}
HasPlace refs (disconnect destination source reason user) = Unit {0}
HasPlace refs (disconnected destination source) = Unit {0}
HasPlace refs (data0 end user) = Unit {0}
HasPlace refs (data2 destination number end user) = Unit {0}
HasPlace refs (acknowledge credit destination number) = Unit {0}
HasPlace refs (error destination cause) = Unit {0}

abbrev pub HasPlaces : List ℕ → List Value → Type 0
HasPlaces refs [] = Unit {0}
HasPlaces refs (unit ∷ units) = HasPlace refs unit × HasPlaces (live_behind refs unit) units

-- `going`: the units in flight to the called end; `coming`: those in flight to the caller
pub record AreJoined (caller called : State) (going coming : List Value) : Type 0 where
  -- a caller and a called end, neither of which has ended, each with its own invariant
  pub is_caller : caller.is_caller ≡ true
  pub is_called : called.is_caller ≡ false
  pub lasts : caller.ended ≡ None
  pub lasts_called : called.ended ≡ None
  pub orderly : IsOrderly caller
  pub orderly_called : IsOrderly called
  -- both support class 2, and no other class is agreed
  pub supports : caller.local.class2 ≡ true
  pub supports_called : called.local.class2 ≡ true
  pub class : MayTakeTwo caller.class
  pub class_called : MayTakeTwo called.class
  -- each unit names a connection, and each connection is in a state that both share
  pub named : AllByRecursion (λ unit. 0 < reference_of unit) going
  pub named_back : AllByRecursion (λ unit. 0 < reference_of unit) coming
  pub stands : (n : ℕ) → 0 < n → StandsBetween true n caller called going coming
  -- the caller has given `ahead` more references than the called end: those of the CRs in flight, and there is a place
  -- for each
  pub ahead : ℕ
  pub given : caller.given ≡ called.given + ahead
  pub numbers : requests going ≡ behind called.given ahead
  pub places : HasPlaces (references called.live) going

-- the messages in flight for a connection from one end to the other, with these units between them
abbrev pub under_way_for : ℕ → State → State → List Value → List Message
under_way_for n sender taker units = messages_to (connection_in (place_at n sender)) (units_of n units) (connection_in (place_at n taker))

-- joined, seen from an end: `true` for the caller
abbrev pub JoinedFrom : Bool → State → State → List Value → List Value → Type 0
JoinedFrom true this other going coming = AreJoined this other going coming
JoinedFrom false this other going coming = AreJoined other this coming going

-- ---- an end (`this`, then `next`) acted for a connection

-- Some of the units in flight to it were taken. What was in flight to it has arrived, and its user was told, or still
-- is in flight.
pub record TakenFor (n : ℕ) (this other next : State) (coming rest : List Value) (put : List Message) : Type 0 where
  -- the units, all for this connection, and their messages
  pub units : List Value
  pub arrived : List Message
  pub cut : coming ≡ units ++ rest
  pub all_for : AreFor n units
  pub told : next.events ≡ this.events ++ flat_map (told_opening n (place_at n this)) arrived
  pub came : AreLike (connection_in (place_at n next)) (under_way_for n other this coming) (arrived ++ under_way_for n other next rest)
  pub brings : BringsTo true (place_at n this) (place_at n next) units arrived put

-- It wrote units. What was in flight from it stays, except for `lost` if the connection is no longer open, and `put`
-- follows.
pub record WrittenFor (n : ℕ) (this other next : State) (going behind : List Value) (put : List Message) : Type 0 where
  -- the units, all for this connection, which follow those in flight from it
  pub units : List Value
  pub written : behind ≡ going ++ units
  pub outgoing : next.outgoing ≡ this.outgoing ++ packets units
  pub sendable : AllByRecursion IsSendable units
  pub all_for : AreFor n units
  -- the messages that were in flight: those that stay, and those that are lost
  pub stays : List Message
  pub lost : List Message
  pub before : under_way_for n this other going ≡ stays ++ lost
  pub after : under_way_for n next other behind ≡ stays ++ put
  pub keeps : leaves_use (progress_of (place_at n this)) (progress_of (place_at n next)) ≡ false → lost ≡ []

-- For all other connections, the state and what is in flight, both ways, are the same.
pub record OthersStay (n : ℕ) (this other next : State) (going coming behind rest : List Value) : Type 0 where
  pub out : (q : ℕ) → q ≢ n → under_way_for q this other going ≡ under_way_for q next other behind
  pub back : (q : ℕ) → q ≢ n → under_way_for q other this coming ≡ under_way_for q other next rest
  pub places : (q : ℕ) → q ≢ n → place_at q next ≡ place_at q this

-- Before, `going` are the units in flight from it and `coming` those to it; after, `behind` and `rest`. It assigned a
-- reference to each connection that it requested or accepted, and agreed the class.
pub record ActsFor (n : ℕ) (this other next : State) (going coming behind rest : List Value) (put : List Message) : Type 0 where
  pub takes : TakenFor n this other next coming rest put
  pub writes : WrittenFor n this other next going behind put
  pub others : OthersStay n this other next going coming behind rest
  pub given : next.given ≡ this.given + references_for true takes.arrived put
  pub class : next.class ≡ class_behind_all (Some Two) this.class takes.arrived
  pub local : next.local ≡ this.local

-- and the two are joined then
pub record Did (end : Bool) (n : ℕ) (this other next : State) (going coming rest : List Value) (put : List Message) : Type 0 where
  pub behind : List Value
  pub acts : ActsFor n this other next going coming behind rest put
  pub joined : JoinedFrom end next other behind rest

-- ---- nothing is in flight

-- a connection that is open at both ends has nothing unfinished at either
pub record IsEmpty (here there : Standing) : Type 0 where
  pub unsent : here.ends.unsent ≡ []
  pub unsent_there : there.ends.unsent ≡ []
  pub begun : here.ends.joining.begun ≡ []
  pub begun_there : there.ends.joining.begun ≡ []
