-- Which lines of a judgement say of a side that it broke the protocol or left the profile.
use Rattle.std.specs.Prelude.{◌≡◌, ◌⊎◌, ℕ, ◌&&◌, Bool, false, List, Option, Some, None, slice_get}
use Rattle.std.specs.List.{list_any}
use Rattle.osi_side.specs.declared.directions.Direction.{Direction}
use Rattle.osi_side.specs.declared.directions.Direction.TheVariants as side
use Rattle.osi_judge.specs.declared.marks.Mark.{Mark}
use Rattle.osi_judge.specs.Blaming.{IsToBlame}
use Rattle.osi_judge.specs.Connections.{Joined}
use Rattle.osi_judge.specs.Courses.{is_break, marks_of}
use Rattle.osi_judge.specs.States.{State}
use Rattle.osi_report.specs.declared.reports.Pair.{Pair}
use Rattle.osi_report.specs.declared.reports.Transport.{Transport as Carried}
use Rattle.osi_report.specs.declared.reports.Last.{Last}
use Rattle.osi_report.specs.declared.reports.Last.TheVariants.{Broke, Left, Transport}
use Rattle.osi_report.specs.Reports.{Report}
use Rattle.osi_report.specs.ReportTexts.{is_side, report_text}
use Rattle.osi_report.specs.Quiet.{blames_on, unjudged_text}
use Rattle.osi_report.specs.declared.told.Connection.{Connection}

-- ---- what is found

-- nothing is found of a side: its transport broke no rule and did not leave the profile, and no session of it is to blame
pub record IsBlameless (d : Direction) (s : State) : Type 0 where
  pub transport : (marks_of d s.course).broke ≡ None
  pub sessions : (i : ℕ) (j : Joined) → (slice_get s.course.sessions.live i ≡ Some j) ⊎ (slice_get s.course.sessions.done i ≡ Some j)
      → IsToBlame d j → ⊥

-- ---- what is printed

-- the lines of a connection of a side
abbrev pub told_on : Direction → Pair → Connection
told_on side.Left p = p.left
told_on side.Right p = p.right

abbrev pub blames_pair : Direction → Pair → Bool
blames_pair d p = blames_on (told_on d p)

-- a line that says after which packet a side is not judged: the packet is of this side, and broke a rule or left the profile
abbrev pub blames_mark : Direction → Option Mark → Bool
blames_mark d None = false
blames_mark d (Some m) = is_side d m.direction && is_break m.cause

-- the last line
abbrev pub blames_last : Direction → Last → Bool
blames_last d (Broke e offset by) = is_side d e
blames_last d (Left e offset by) = is_side d e
blames_last d (Transport e m) = is_side d e
blames_last d last = false

abbrev pub transport_in : Direction → Report → Carried
transport_in side.Left r = r.left
transport_in side.Right r = r.right

-- no line of a report blames the side
pub record IsClearOf (d : Direction) (r : Report) : Type 0 where
  pub transport : (transport_in d r).broke ≡ None
  pub left_halts : blames_mark d r.left.halted ≡ false
  pub right_halts : blames_mark d r.right.halted ≡ false
  pub connections : list_any (blames_pair d) r.pairs ≡ false
  pub last : blames_last d r.last ≡ false

-- These lines blame the side nowhere: they are those of a report that doesn't, or they say what was read, what blames nobody, and why
-- nothing is judged.
pub data BlameNowhere (d : Direction) (lines : List ℕ) : Type 0 where
  reported : (r : Report) → lines ≡ report_text r → IsClearOf d r → BlameNowhere d lines
  not_judged : (left right : Carried) (pairs : List Pair) (why : Last) → lines ≡ unjudged_text left right pairs why
      → blames_last d why ≡ false → BlameNowhere d lines
