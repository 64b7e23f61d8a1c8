-- What is told of a capture while it is heard: lines of the report of what has passed.
use Rattle.std.specs.Prelude.{◌≡◌, ℕ, ◌<◌, ◌&&◌, ◌++◌, not, if◌then◌else◌, Bool, true, false, List, [], ◌∷◌, Option, Some, None, is_some}
use Rattle.std.specs.List.{flat_map}
use Rattle.osi_tpkt.specs.Stream.{offset_of}
use Rattle.osi_side.specs.declared.directions.Direction.{Direction}
use Rattle.osi_side.specs.declared.directions.Direction.TheVariants as side
use Rattle.osi_side.specs.Captures.{Capture, other, stream}
use Rattle.osi_judge.specs.declared.marks.Cause.{Cause}
use Rattle.osi_judge.specs.declared.marks.Cause.TheVariants.{TooMany}
use Rattle.osi_judge.specs.declared.marks.Mark.{Mark}
use Rattle.osi_judge.specs.Connections.{count, numbered}
use Rattle.osi_judge.specs.Courses.{marks_of}
use Rattle.osi_judge.specs.States.{State, comes_to}
use Rattle.osi_judge.specs.declared.outcomes.Outcome.TheVariants as outcome
use Rattle.osi_report.specs.declared.told.Connection.{Connection}
use Rattle.osi_report.specs.declared.told.Connection.TheVariants.{Session}
use Rattle.osi_report.specs.ToldTexts.{connection_lines}
use Rattle.osi_listing.specs.Capture.{is_line_feed}
use Rattle.osi_report.specs.declared.news.Subject.{Subject}
use Rattle.osi_report.specs.declared.news.Subject.TheVariants.{Transport, Rest, OfSession}
use Rattle.osi_report.specs.declared.places.Place.{Place}
use Rattle.osi_report.specs.declared.reports.Pair.{Pair}
use Rattle.osi_report.specs.Blaming.{told_on}
use Rattle.osi_report.specs.Openings.{may_be_late, unjudged_in}
use Rattle.osi_report.specs.Passing.{after_passed, passed_from, start}
use Rattle.osi_report.specs.Reports.{IsPairOf, carried}
use Rattle.osi_report.specs.ReportTexts.{halt_line, halt_told, mark_lines}

-- ---- the line of a subject; none as long as nothing is certain

-- the first line of a text, with its end
abbrev pub front_line : List ℕ → List ℕ
front_line [] = []
front_line (c ∷ text) = if is_line_feed c then c ∷ [] else c ∷ front_line text

-- a session broke the protocol, left the profile, or is judged no further
abbrev pub is_certain : Connection → Bool
is_certain (Session reference (outcome.Broke offset by)) = true
is_certain (Session reference (outcome.Left offset by)) = true
is_certain (Session reference outcome.TooMany) = true
is_certain c = false

-- then the first of the lines that a report has of it
abbrev pub connection_line : Direction → Connection → List ℕ
connection_line d c = if is_certain c then front_line (connection_lines d c) else []

-- of a side of which nothing more is judged, since nobody can tell whether a unit is a break
abbrev pub is_too_many : Cause → Bool
is_too_many TooMany = true
is_too_many cause = false

abbrev pub rest_line : Direction → Option Mark → List ℕ
rest_line d None = []
rest_line d (Some m) = if is_too_many m.cause then halt_line d m else []

-- what is told of the connection with a number
pub record IsSessionLine (s : State) (number : ℕ) (d : Direction) (line : List ℕ) : Type 0 where
  pub pair : Pair
  pub is_pair : IsPairOf (numbered number s.course.sessions) pair
  pub few : number < offset_of (count s.course.sessions)
  pub is : line ≡ connection_line d (told_on d pair)

abbrev pub IsLineOf : State → Subject → List ℕ → Type 0
IsLineOf s (Transport d) line = line ≡ mark_lines d (marks_of d s.course).broke
IsLineOf s (Rest d) line = line ≡ rest_line d (halt_told d (carried d s) (carried (other d) s))
IsLineOf s (OfSession d number) line = IsSessionLine s number d line

-- ---- news

-- a line of what has passed
pub record IsNews (s : State) (line : List ℕ) : Type 0 where
  pub subject : Subject
  pub is : IsLineOf s subject line

abbrev pub AreNews : State → List (List ℕ) → Type 0
AreNews s [] = Unit {0}
AreNews s (line ∷ lines) = IsNews s line × AreNews s lines

-- one after the other
abbrev pub joined : List (List ℕ) → List ℕ
joined lines = flat_map (λ (line : List ℕ). line) lines

pub record AddsNews (s : State) (old new : List ℕ) : Type 0 where
  pub lines : List (List ℕ)
  pub are : AreNews s lines
  pub added : new ≡ old ++ joined lines

-- Something may be told: octets of both sides have passed, and the capture does not begin in the middle of a connection, nor can that
-- still turn out.
abbrev pub is_decided : State → (left : List ℕ) → Bool
is_decided s left = not (is_some (unjudged_in s left)) && not (may_be_late s left)

abbrev pub AddsIf : (is_decided : Bool) → State → (old new : List ℕ) → Type 0
AddsIf true s old new = AddsNews s old new
AddsIf false s old new = new ≡ old

-- of a capture
abbrev pub Announces : Capture → (old new : List ℕ) → Type 0
Announces capture old new = AddsIf (is_decided (comes_to capture) (stream side.Left capture)) (comes_to capture) old new

-- ---- what is told while a text is read

-- of what had passed of the text by then
pub record IsToldOf (text line : List ℕ) : Type 0 where
  pub capture : Capture
  pub place : Place
  pub rest : List ℕ
  pub passed : passed_from start text ≡ after_passed capture (passed_from place rest)
  pub decided : is_decided (comes_to capture) (stream side.Left capture) ≡ true
  pub news : IsNews (comes_to capture) line

abbrev pub AreToldOf : (text : List ℕ) → List (List ℕ) → Type 0
AreToldOf text [] = Unit {0}
AreToldOf text (line ∷ lines) = IsToldOf text line × AreToldOf text lines

pub record IsTold (text told : List ℕ) : Type 0 where
  pub lines : List (List ℕ)
  pub are : AreToldOf text lines
  pub is : told ≡ joined lines

-- ---- a line of a text

pub record IsPartOf (line text : List ℕ) : Type 0 where
  pub front : List ℕ
  pub back : List ℕ
  pub is : text ≡ front ++ line ++ back
