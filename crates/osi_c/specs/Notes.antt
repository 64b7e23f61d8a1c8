-- What C is told of a byte connection, by what passed.
use Rattle.std.specs.Prelude.{◌≡◌, ℕ, Bool, true, false, if◌then◌else◌, Option, Some, None}
use Rattle.osi_side.specs.declared.directions.Direction.{Direction}
use Rattle.osi_side.specs.declared.directions.Direction.TheVariants.{Left, Right}
use Rattle.osi_side.specs.declared.findings.Finding.{Finding}
use Rattle.osi_side.specs.declared.findings.Finding.TheVariants as finding
use Rattle.osi_side.specs.Captures.{Capture, other, stream}
use Rattle.osi_side.specs.Judging.{Observed}
use Rattle.osi_judge.specs.declared.connections.Connection.{Connection}
use Rattle.osi_judge.specs.declared.marks.Mark.{Mark}
use Rattle.osi_judge.specs.declared.outcomes.Outcome.{Outcome}
use Rattle.osi_judge.specs.declared.outcomes.Outcome.TheVariants as outcome
use Rattle.osi_judge.specs.declared.outcomes.Violation.{Violation}
use Rattle.osi_judge.specs.declared.pasts.Past.{Past}
use Rattle.osi_judge.specs.Connections.{Joined, spoken, numbered}
use Rattle.osi_judge.specs.Courses.{marks_of}
use Rattle.osi_judge.specs.Holding.{HoldsJoined, IsHeard, IsPlace}
use Rattle.osi_judge.specs.KnownSessions.{IsSession}
use Rattle.osi_judge.specs.Outcomes.{violation_of}
use Rattle.osi_judge.specs.Pasts.{HoldsPast}
use Rattle.osi_judge.specs.Rooms.{is_over}
use Rattle.osi_judge.specs.Standing.{IsSettled}
use Rattle.osi_judge.specs.States.{State}
use Rattle.osi_report.specs.Telling.{is_dropped}
use Rattle.osi_report.specs.Openings.{begins_late}
use Rattle.osi_c.specs.Fed.{fed, WasFed}
use Rattle.osi_c.specs.declared.judges.HeldJudge.{HeldJudge}
use Rattle.osi_c.specs.declared.notes.Note.{Note}
use Rattle.osi_c.specs.declared.notes.Note.TheVariants.{Silent, Kept, Broke, Leaves, TooMany, Over, Stopped, Halted, Unopened}
use Rattle.osi_c.specs.declared.subjects.Subject.{Subject}
use Rattle.osi_c.specs.declared.subjects.Subject.TheVariants.{Session, Transport, Rest}

-- ---- of a session

-- if it kept the protocol, and more passed than the bound of a connection, it is judged no further
abbrev pub note_of_kept : (is_over : Bool) → Note
note_of_kept true = Over
note_of_kept false = Kept

-- by what was found of what passed on its connection, up to that bound
abbrev pub note_of_found : (is_over : Bool) → Finding → (offset : ℕ) → Violation → Note
note_of_found is_over finding.Kept offset by = note_of_kept is_over
note_of_found is_over (finding.Broke i) offset by = Broke offset by
note_of_found is_over (finding.Left i) offset by = Leaves offset by
note_of_found is_over finding.TooMany offset by = TooMany

-- the same, by what is told of it
abbrev pub note_of_outcome : (is_over : Bool) → Outcome → Note
note_of_outcome is_over (outcome.Kept tsdus state owes) = note_of_kept is_over
note_of_outcome is_over (outcome.Broke offset by) = Broke offset by
note_of_outcome is_over (outcome.Left offset by) = Leaves offset by
note_of_outcome is_over outcome.TooMany = TooMany

-- after the other side left the profile, nothing is told of a side
abbrev pub note_unless : (is_dropped : Bool) → Note → Note
note_unless true n = Silent
note_unless false n = n

-- of a side of a connection
pub record IsNoteOf (d : Direction) (j : Joined) (n : Note) : Type 0 where
  pub own : Observed
  pub beside : Observed
  pub of_own : IsSession d j own
  pub of_beside : IsSession (other d) j beside
  pub offset : ℕ
  pub place : IsPlace own.finding (spoken d j).said offset
  pub tells : n ≡ note_unless (is_dropped own.finding beside.finding) (note_of_found (is_over j.room) own.finding offset (violation_of own.by))

abbrev pub IsNoteAt : Direction → Option Joined → Note → Type 0
IsNoteAt d None n = n ≡ Silent
IsNoteAt d (Some j) n = IsNoteOf d j n

-- ---- of a transport

-- the first break, unless nothing of the capture is judged
abbrev pub note_of_break : (is_late : Bool) → Option Mark → Note
note_of_break is_late None = Kept
note_of_break is_late (Some m) = if is_late then Silent else Stopped m

-- the packet after which nothing more is judged
abbrev pub note_of_halt : (is_late : Bool) → Option Mark → Note
note_of_halt is_late None = Kept
note_of_halt is_late (Some m) = if is_late then Unopened m else Halted m

-- ---- of any subject

-- by what a capture comes to, which begins in the middle of a connection or not
abbrev pub IsNote : State → (is_late : Bool) → Subject → Note → Type 0
IsNote s is_late (Session number d) n = IsNoteAt d (numbered number s.course.sessions) n
IsNote s is_late (Transport d) n = n ≡ note_of_break is_late (marks_of d s.course).broke
IsNote s is_late (Rest d) n = n ≡ note_of_halt is_late (marks_of d s.course).halted

abbrev pub is_late_in : Capture → Bool
is_late_in capture = begins_late (fed capture) (stream Left capture)

-- whatever the judge was fed
abbrev pub Tells : HeldJudge → Subject → Note → Type 0
Tells w k n = (capture : Capture) → WasFed w capture → IsSettled w.judge → IsNote (fed capture) (is_late_in capture) k n

-- ---- what is certain

-- a side that keeps the protocol may break it later, and of a side of which nothing is told nothing is certain
abbrev pub is_certain : Note → Bool
is_certain Silent = false
is_certain Kept = false
is_certain n = true

-- nothing is certain of a side of a connection
abbrev pub IsStillOf : Direction → Joined → Type 0
IsStillOf d j = (n : Note) × IsNoteOf d j n × (is_certain n ≡ false)

-- of the connection with a number, if there is one
abbrev pub IsStillAt : Direction → Option Joined → Type 0
IsStillAt d o = (n : Note) × IsNoteAt d o n × (is_certain n ≡ false)

-- of either side of a connection that a judge holds, once each session has heard all
abbrev pub IsStill : Connection → Type 0
IsStill c = (j : Joined) → HoldsJoined c j → IsHeard c → IsStillOf Left j × IsStillOf Right j

abbrev pub StillIf : Bool → Connection → Type 0
StillIf true c = IsStill c
StillIf false c = Unit {0}

-- of either side of a connection whose place was given to another
abbrev pub IsStillPast : Past → Type 0
IsStillPast p = (j : Joined) → HoldsPast p j → IsStillOf Left j × IsStillOf Right j

abbrev pub StillPastIf : Bool → Past → Type 0
StillPastIf true p = IsStillPast p
StillPastIf false p = Unit {0}

-- of a subject, whatever the judge was fed
abbrev pub TellsNothing : HeldJudge → Subject → Type 0
TellsNothing w k = (capture : Capture) → WasFed w capture → IsSettled w.judge
    → (n : Note) × IsNote (fed capture) (is_late_in capture) k n × (is_certain n ≡ false)
