-- What was found of a text of both sides of a capture.
use Rattle.std.specs.Prelude.{◌≡◌, ℕ, List, Option, Some, None}
use Rattle.osi_side.specs.declared.directions.Direction.TheVariants.{Left, Right}
use Rattle.osi_side.specs.Captures.{Capture}
use Rattle.osi_judge.specs.States.{State, comes_to}
use Rattle.osi_report.specs.declared.reports.Last.{Last}
use Rattle.osi_report.specs.Openings.{unjudged}
use Rattle.osi_report.specs.declared.reports.Pair.{Pair}
use Rattle.osi_report.specs.Reports.{Report, ArePairsOf, IsReport, carried}
use Rattle.osi_report.specs.ReportTexts.{report_text, last_status}
use Rattle.osi_report.specs.Quiet.{unjudged_text}
use Rattle.osi_report.specs.Rows.{IsCaptureOf}

-- they report all connections, by what a capture comes to
pub record Reported (s : State) (lines : List ℕ) (status : ℕ) : Type 0 where
  pub report : Report
  pub reported : IsReport s report
  pub told : lines ≡ report_text report
  pub answered : status ≡ last_status report.last

-- they say what was read, what blames nobody, and why nothing of it is judged
pub record NotJudged (s : State) (why : Last) (lines : List ℕ) (status : ℕ) : Type 0 where
  pub pairs : List Pair
  pub are : ArePairsOf s.course.sessions pairs
  pub told : lines ≡ unjudged_text (carried Left s) (carried Right s) pairs why
  pub answered : status ≡ last_status why

-- they say the one or the other
abbrev pub Judges : Option Last → State → (lines : List ℕ) → (status : ℕ) → Type 0
Judges None s lines status = Reported s lines status
Judges (Some why) s lines status = NotJudged s why lines status

-- the text is a capture, of which they say what it comes to, or why nothing of it is judged
pub record IsJudgement (text lines : List ℕ) (status : ℕ) : Type 0 where
  pub capture : Capture
  pub reads : IsCaptureOf text capture
  pub judged : Judges (unjudged capture) (comes_to capture) lines status
