-- What is kept in memory of the connections that passed: for each side a session of `osi_side` that was told and heard what
-- passed of that side and of the other.
use Rattle.std.specs.Prelude.{◌≡◌, ◌⊎◌, ℕ, Bool, true, false, List, [], ◌∷◌, ◌++◌, Option, Some, None}
use Rattle.osi_session.specs.Standing.{Seen, seen_calling, seen_called}
use Rattle.osi_side.specs.declared.findings.Finding.{Finding}
use Rattle.osi_side.specs.declared.findings.Finding.TheVariants as finding
use Rattle.osi_side.specs.Judging.{Observed, Observes}
use Rattle.osi_side.specs.Outlines.{outline, outlines}
use Rattle.osi_side.specs.Sides.{observed}
use Rattle.osi_judge.specs.declared.marks.First.{First}
use Rattle.osi_judge.specs.declared.marks.Layer.TheVariants.{Session}
use Rattle.osi_judge.specs.declared.lines.Line.{Line}
use Rattle.osi_judge.specs.declared.lines.Stage.{Stage}
use Rattle.osi_judge.specs.declared.lines.Stage.TheVariants.{Between, Within, Unheard}
use Rattle.osi_judge.specs.declared.connections.Connection.{Connection}
use Rattle.osi_judge.specs.Lines.{Spoken, Said, Begun, told, heard, place_in}
use Rattle.osi_judge.specs.Connections.{Joined, Sessions}
use Rattle.osi_judge.specs.Streams.{Front, partial, faulty, whole, Streamed}
use Rattle.osi_judge.specs.declared.streams.Shape.{Shape}
use Rattle.osi_judge.specs.declared.streams.Shape.TheVariants.{Partial, Faulty, Whole}
use Rattle.osi_judge.specs.declared.streams.Stream.{Stream}
use Rattle.osi_judge.specs.Courses.{Course, applied, unit_passes}
use Rattle.osi_judge.specs.Blaming.{IsEarliest}
use Rattle.osi_judge.specs.declared.sessions.Found.{Found}
use Rattle.osi_judge.specs.declared.sessions.Found.TheVariants.{Placed, Replaced}
use Rattle.osi_judge.specs.declared.sessions.Sessions.{Sessions as Kept}
use Rattle.osi_judge.specs.Pasts.{HoldsPast, AllPast}
use Rattle.osi_judge.specs.declared.proceedings.Proceedings.{Proceedings}
use Rattle.osi_tpdu.specs.Value.{Value}
use Rattle.osi_side.specs.declared.directions.Direction.{Direction}
use Rattle.osi_side.specs.declared.directions.Direction.TheVariants.{Left, Right}
use Rattle.osi_rules.specs.declared.findings.Told.{Told as Noted}

-- a side of a connection, as it is kept
pub record Lined : Type 0 where
  pub side : Observed
  pub begun : List ℕ
  pub stage : Stage
  pub begun_since : ℕ
  pub since : ℕ
  pub last : ℕ

abbrev pub lined : Line → Lined
lined l = record {
  side = observed l.side;
  begun = l.begun.items;
  stage = l.stage;
  begun_since = l.begun_since;
  since = l.since;
  last = l.last;
}

-- the packet that ended the TSDU at which a session broke the protocol; the last one while it keeps the protocol
abbrev pub last_place : Finding → (at last : ℕ) → ℕ
last_place finding.Kept at last = at
last_place found at last = last

-- the TSDU that the other session has still to be given
abbrev pub unheard_at : Stage → List ℕ → List (List ℕ)
unheard_at Between octets = []
unheard_at Within octets = []
unheard_at Unheard octets = outline octets ∷ []

abbrev pub unheard : Lined → List (List ℕ)
unheard l = unheard_at l.stage l.begun

abbrev pub is_unheard : Stage → Bool
is_unheard Unheard = true
is_unheard stage = false

-- the unfinished TSDU
abbrev pub begun_at : Stage → List ℕ → ℕ → Option Begun
begun_at Between octets before = None
begun_at Within octets before = Some (record { octets = octets; before = before })
begun_at Unheard octets before = None

abbrev pub begun_in : Lined → Option Begun
begun_in l = begun_at l.stage l.begun l.begun_since

-- between two TSDUs no octets are kept
abbrev pub IsClear : Stage → List ℕ → Type 0
IsClear Between octets = octets ≡ []
IsClear Within octets = Unit {0}
IsClear Unheard octets = Unit {0}

-- of a session that broke the protocol or left the profile, the packet in which that TSDU ended
abbrev pub IsPlace : Finding → List Said → ℕ → Type 0
IsPlace (finding.Broke i) said at = place_in said i ≡ Some at
IsPlace (finding.Left i) said at = place_in said i ≡ Some at
IsPlace found said at = Unit {0}

-- What is kept of a side, whose session began so, and of the other side holds what passed of both: its session was told its
-- TSDUs, and heard those of the other side, but for one that it is still to be given.
pub record Holds (begin : Seen) (own other : Lined) (mine theirs : Spoken) : Type 0 where
  pub begins_so : own.side.begin ≡ begin
  pub says : Observes own.side (told mine)
  pub hears : own.side.heard ++ unheard other ≡ outlines (heard theirs)
  pub unfinished : begun_in own ≡ mine.begun
  pub clear : IsClear own.stage own.begun
  pub known : own.since ≡ mine.since
  pub place : IsPlace own.side.finding mine.said own.last

-- of both sides
pub record HoldsBoth (own_begin other_begin : Seen) (own other : Lined) (mine theirs : Spoken) : Type 0 where
  pub this : Holds own_begin own other mine theirs
  pub that : Holds other_begin other own theirs mine

-- of a connection
pub record HoldsJoined (c : Connection) (j : Joined) : Type 0 where
  pub number : c.number ≡ j.number
  pub calling : c.calling ≡ j.calling
  pub called : c.called ≡ j.called
  pub class : c.class ≡ j.class
  pub closed : c.closed ≡ j.closed
  pub room : c.room ≡ j.room
  pub sides : HoldsBoth seen_calling seen_called (lined c.left) (lined c.right) j.left j.right

abbrev pub line_in : Direction → Connection → Lined
line_in Left c = lined c.left
line_in Right c = lined c.right

-- the session of each side was given all TSDUs of the other
pub record IsHeard (c : Connection) : Type 0 where
  pub left : is_unheard c.left.stage ≡ false
  pub right : is_unheard c.right.stage ≡ false

abbrev pub AreHeard : List Connection → Type 0
AreHeard [] = Unit {0}
AreHeard (c ∷ cs) = IsHeard c × AreHeard cs

-- of a connection that is sought, if it has a place
abbrev pub FoundHeard : Option Found → Type 0
FoundHeard None = Unit {0}
FoundHeard (Some (Placed c)) = IsHeard c.now
FoundHeard (Some (Replaced p)) = Unit {0}

-- of all connections that have a place
abbrev pub AllHeard : Kept → Type 0
AllHeard k = AreHeard k.live.items

-- of connections, one after the other
abbrev pub HoldAll : List Connection → List Joined → Type 0
HoldAll [] [] = Unit {0}
HoldAll (c ∷ cs) (j ∷ js) = HoldsJoined c j × HoldAll cs js
HoldAll [] (j ∷ js) = ⊥
HoldAll (c ∷ cs) [] = ⊥

-- of one that has a place, or is over
abbrev pub HoldsEither : Found → Joined → Type 0
HoldsEither (Placed c) j = HoldsJoined c.now j
HoldsEither (Replaced p) j = HoldsPast p.now j

-- of a connection that is sought
abbrev pub HoldsFound : Option Found → Option Joined → Type 0
HoldsFound None None = Unit {0}
HoldsFound (Some f) (Some j) = HoldsEither f j
HoldsFound None (Some j) = ⊥
HoldsFound (Some f) None = ⊥

-- of all connections
pub record HoldsSessions (k : Kept) (s : Sessions) : Type 0 where
  pub live : HoldAll k.live.items s.live
  pub done : AllPast k.done s.done
  pub room : k.room ≡ s.room

-- the break that is told as the first: if this is the first of transport, then this one, unless a session broke before it
abbrev pub IsFirst : (told first : Option First) → Type 0
IsFirst None None = Unit {0}
IsFirst None (Some f) = ⊥
IsFirst (Some told) None = told.layer ≡ Session
IsFirst (Some told) (Some f) = (told ≡ f) ⊎ (told.layer ≡ Session)

-- of a byte connection, but for which break was first
pub record HoldsPassed (w : Proceedings) (c : Course) : Type 0 where
  pub traffic : w.traffic ≡ c.traffic
  pub sessions : HoldsSessions w.sessions c.sessions
  pub left : w.left ≡ c.left
  pub right : w.right ≡ c.right
  pub first : IsFirst w.first c.first

-- of a byte connection
pub record HoldsCourse (w : Proceedings) (c : Course) : Type 0 where
  pub traffic : w.traffic ≡ c.traffic
  pub sessions : HoldsSessions w.sessions c.sessions
  pub left : w.left ≡ c.left
  pub right : w.right ≡ c.right
  pub first : IsFirst w.first c.first
  pub order : IsEarliest w.first c.past c.sessions

-- ---- a packet of which some has passed, and the rest waits for memory

-- what the next unit comes to, of which this is told already, or nothing
abbrev pub unit_due : Option Noted → Direction → (at : ℕ) → Value → Course → Course
unit_due None d at v c = unit_passes d at v c
unit_due (Some told) d at v c = applied d at v told c

-- of the next unit this is told, and it comes to this
pub record IsTold (w : Proceedings) (d : Direction) (at : ℕ) (v : Value) (told : Noted) (c : Course) : Type 0 where
  pub by_now : Course
  pub holds : HoldsCourse w by_now
  pub comes : applied d at v told by_now ≡ c

-- a unit is still to pass, and then it comes to this
pub record IsDue (w : Proceedings) (d : Direction) (at : ℕ) (v : Value) (c : Course) : Type 0 where
  pub by_now : Course
  pub holds : HoldsCourse w by_now
  pub comes : unit_due w.told d at v by_now ≡ c

-- ---- the packets of one direction

abbrev pub streamed : Stream → Streamed
streamed t = record { packets = t.packets; octets = t.octets; at = t.at; held = t.held.items; spent = t.spent }

abbrev pub look_as : Shape → Front
look_as Partial = partial
look_as (Faulty fault) = faulty fault
look_as (Whole unit) = whole unit.now
