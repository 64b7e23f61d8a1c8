-- What a report says of a byte connection, by what a capture of it comes to.
use Rattle.std.specs.Prelude.{◌≡◌, ℕ, ◌+◌, ◌-◌, ◌^◌, ◌<◌, Bool, true, false, not, ◌&&◌, is_some, List, [], ◌∷◌, length, Option, Some, None}
use Rattle.std.specs.List.{list_all, list_any}
use Rattle.osi_tpkt.specs.Stream.{offset_of}
use Rattle.osi_side.specs.declared.directions.Direction.{Direction}
use Rattle.osi_side.specs.declared.directions.Direction.TheVariants as side
use Rattle.osi_side.specs.Captures.{Capture}
use Rattle.osi_side.specs.Judging.{Observed}
use Rattle.osi_side.specs.Findings.{broke_session}
use Rattle.osi_judge.specs.declared.marks.First.{First}
use Rattle.osi_judge.specs.declared.marks.Layer.{Layer}
use Rattle.osi_judge.specs.declared.marks.Layer.TheVariants as layer
use Rattle.osi_judge.specs.declared.marks.Mark.{Mark}
use Rattle.osi_judge.specs.declared.outcomes.Outcome.{Outcome}
use Rattle.osi_judge.specs.declared.outcomes.Outcome.TheVariants as outcome
use Rattle.osi_judge.specs.declared.rooms.Room.{Room}
use Rattle.osi_judge.specs.declared.judge.Judge.{Judge}
use Rattle.osi_judge.specs.Blaming.{IsFirstOf, NobodyIs}
use Rattle.osi_judge.specs.Connections.{Joined, Sessions, reference_of, numbered, count}
use Rattle.osi_judge.specs.Courses.{marks_of, first_of}
use Rattle.osi_judge.specs.KnownSessions.{IsSession}
use Rattle.osi_judge.specs.Outcomes.{IsOutcomeOf, SaysSo}
use Rattle.osi_judge.specs.Rooms.{is_over}
use Rattle.osi_judge.specs.Streams.{reading_of}
use Rattle.osi_judge.specs.Standing.{HoldsState, IsSettled}
use Rattle.osi_judge.specs.States.{State, stream_of, after, begin_within}
use Rattle.osi_report.specs.declared.reports.Pair.{Pair}
use Rattle.osi_report.specs.declared.reports.Summary.{Summary}
use Rattle.osi_report.specs.declared.reports.Transport.{Transport as Carried}
use Rattle.osi_report.specs.declared.reports.Last.{Last}
use Rattle.osi_report.specs.declared.reports.Last.TheVariants.{BothKept, Broke, Left, Transport, TooManySessions, Limit, TooManyConnections}
use Rattle.osi_report.specs.declared.told.Connection.{Connection}
use Rattle.osi_report.specs.declared.told.Connection.TheVariants.{Silent}
use Rattle.osi_report.specs.Telling.{is_kept, is_dropped, connection_by}

-- ---- one connection

-- a CC opened the connection, or it was refused
abbrev pub is_opened : Joined → Bool
is_opened j = is_some j.class

abbrev pub is_refused_in : Joined → Bool
is_refused_in j = j.closed && not (is_opened j)

-- this is known of a connection
pub record IsSummary (j : Joined) (s : Summary) : Type 0 where
  pub left : IsOutcomeOf side.Left j s.left
  pub right : IsOutcomeOf side.Right j s.right
  pub calling : s.calling ≡ reference_of side.Left j
  pub called : s.called ≡ reference_of side.Right j
  pub opened : s.is_opened ≡ is_opened j
  pub refused : s.is_refused ≡ is_refused_in j
  pub over : s.is_over ≡ is_over j.room

-- this is told of the connection of a side
pub record Tells (d : Direction) (j : Joined) (own other : Observed) (c : Connection) : Type 0 where
  pub session : Outcome
  pub says : SaysSo d j own session
  pub is : c ≡ connection_by (is_dropped own.finding other.finding) (reference_of d j) (broke_session own.finding) (is_refused_in j)
      (not (is_opened j)) session

-- this is reported of a connection: of both sides, whether both kept the protocol, and whether more passed than is judged
pub record IsPair (j : Joined) (p : Pair) : Type 0 where
  pub left : Observed
  pub right : Observed
  pub of_left : IsSession side.Left j left
  pub of_right : IsSession side.Right j right
  pub tells_left : Tells side.Left j left right p.left
  pub tells_right : Tells side.Right j right left p.right
  pub keeps : p.keeps ≡ (is_kept left.finding && is_kept right.finding)
  pub over : p.over ≡ is_over j.room

-- ---- all connections

-- of a number that no connection has
abbrev pub no_pair : Pair
no_pair = record { left = Silent; right = Silent; keeps = true; over = false }

abbrev pub IsPairOf : Option Joined → Pair → Type 0
IsPairOf None p = p ≡ no_pair
IsPairOf (Some j) p = IsPair j p

-- of the connections from this number on
abbrev pub ArePairs : Sessions → (number : ℕ) → List Pair → Type 0
ArePairs s number [] = Unit {0}
ArePairs s number (p ∷ ps) = IsPairOf (numbered number s) p × ArePairs s (number + 1) ps

-- of all, in the order of their CRs
pub record ArePairsOf (s : Sessions) (ps : List Pair) : Type 0 where
  pub count : length ps ≡ offset_of (count s)
  pub each : ArePairs s 0 ps

abbrev pub all_keep : List Pair → Bool
all_keep ps = list_all (λ (p : Pair). p.keeps) ps

-- of one more passed than is judged
abbrev pub some_over : List Pair → Bool
some_over ps = list_any (λ (p : Pair). p.over) ps

-- ---- transport

-- what is reported of the transport of a side: what was read, its first break, and where nothing more of it is judged
abbrev pub carried : Direction → State → Carried
carried d s = record { reading = reading_of (stream_of d s); broke = (marks_of d s.course).broke; halted = (marks_of d s.course).halted }

-- ---- the last line

-- the transport of a side broke no rule, and all of it was judged
abbrev pub is_clear : Carried → Bool
is_clear t = not (is_some t.broke) && not (is_some t.halted)

-- the last line if nobody broke the protocol
abbrev pub kept_last : (is_clear all_keep some_over : Bool) → Last
kept_last clear false over = TooManySessions
kept_last clear true true = Limit
kept_last true true false = BothKept
kept_last false true false = TooManyConnections

-- the last line if a session of this side was the first, of which this is told
abbrev pub stray_last : Direction → Outcome → Option Last
stray_last d (outcome.Broke offset by) = Some (Broke d offset by)
stray_last d (outcome.Left offset by) = Some (Left d offset by)
stray_last d o = None

-- The first break is of a session, that of its side on the connection with its number, and the last line is what is told of it.
pub record IsStrayLast (s : State) (f : First) (last : Last) : Type 0 where
  pub number : ℕ
  pub connection : Joined
  pub session : Observed
  pub told : Outcome
  pub of_number : f.connection ≡ Some number
  pub numbered_so : numbered number s.course.sessions ≡ Some connection
  pub is_session : IsSession f.direction connection session
  pub says : SaysSo f.direction connection session told
  pub is : stray_last f.direction told ≡ Some last

-- It is of transport, and the last line is its mark, where the transport of its side first broke a rule.
pub record IsMarkLast (s : State) (f : First) (last : Last) : Type 0 where
  pub mark : Mark
  pub broke : (marks_of f.direction s.course).broke ≡ Some mark
  pub first : f ≡ first_of mark
  pub is : last ≡ Transport f.direction mark

abbrev pub IsFirstLast : Layer → State → First → Last → Type 0
IsFirstLast layer.Session s f last = IsStrayLast s f last
IsFirstLast layer.Transport s f last = IsMarkLast s f last

-- nobody broke the protocol, and the last line says whether all was judged
pub record IsKeptLast (s : State) (ps : List Pair) (last : Last) : Type 0 where
  pub nobody : NobodyIs s.course.sessions
  pub is : last ≡ kept_last (is_clear (carried side.Left s) && is_clear (carried side.Right s)) (all_keep ps) (some_over ps)

abbrev pub IsLastBy : Option First → State → List Pair → Last → Type 0
IsLastBy None s ps last = IsKeptLast s ps last
IsLastBy (Some f) s ps last = IsFirstLast f.layer s f last

-- the last line names the first break of all, of transport and of sessions; or there is none, and nobody broke the protocol
pub record IsLast (s : State) (ps : List Pair) (last : Last) : Type 0 where
  pub first : Option First
  pub is_first : IsFirstOf first s.course.past
  pub says : IsLastBy first s ps last

-- ---- a judge that is asked

-- what a capture comes to, if of each connection so much is judged
pub record IsReached (s : State) : Type 0 where
  pub room : Room
  pub capture : Capture
  pub is : s ≡ after capture (begin_within room)

-- A judge that is settled holds what some capture comes to, which requests so few connections that each has a number of its own.
pub record HoldsReached (t : Judge) (s : State) : Type 0 where
  pub reached : IsReached s
  pub holds : HoldsState t s
  pub settled : IsSettled t
  pub few : count s.course.sessions < 2 ^ 64 - 1

-- ---- the report

-- what is reported: of the transport of both sides, of each connection, and who was first
pub record Report : Type 0 where
  pub left : Carried
  pub right : Carried
  pub pairs : List Pair
  pub last : Last

pub record IsReport (s : State) (r : Report) : Type 0 where
  pub left : r.left ≡ carried side.Left s
  pub right : r.right ≡ carried side.Right s
  pub pairs : ArePairsOf s.course.sessions r.pairs
  pub last : IsLast s r.pairs r.last
