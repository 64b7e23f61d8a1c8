-- What is added to a text as a report is written.
use Rattle.std.specs.Prelude.{◌≡◌, ℕ, Bool, List, ◌++◌, length, Option, Some, None}
use Rattle.std.specs.List.{flat_map}
use Rattle.osi_judge.specs.Connections.{Joined, Sessions}
use Rattle.osi_judge.specs.States.{State}
use Rattle.osi_side.specs.declared.directions.Direction.TheVariants.{Left, Right}
use Rattle.osi_report.specs.declared.reports.Last.{Last}
use Rattle.osi_report.specs.declared.reports.Pair.{Pair}
use Rattle.osi_report.specs.declared.reports.Together.{Together}
use Rattle.osi_report.specs.Reports.{Report, IsReport, IsPairOf, ArePairs, ArePairsOf, all_keep, some_over, carried}
use Rattle.osi_report.specs.ReportTexts.{report_text, last_status}
use Rattle.osi_report.specs.Quiet.{lines_if, unjudged_text}

-- the lines of one connection, of which this is reported, if the capture is judged or not
pub record AddsPair (is_judged : Bool) (o : Option Joined) (old new : List ℕ) (pair : Pair) : Type 0 where
  pub is_pair : IsPairOf o pair
  pub added : new ≡ old ++ lines_if is_judged pair

-- those of the first so many connections, of which this is reported together
pub record AddsPairs (is_judged : Bool) (s : Sessions) (count : ℕ) (old new : List ℕ) (all : Together) : Type 0 where
  pub pairs : List Pair
  pub as_many : length pairs ≡ count
  pub each : ArePairs s 0 pairs
  pub added : new ≡ old ++ flat_map (lines_if is_judged) pairs
  pub kept : all.keeps ≡ all_keep pairs
  pub over : all.over ≡ some_over pairs

-- a report, and its status
pub record AddsReport (s : State) (old new : List ℕ) (status : ℕ) : Type 0 where
  pub report : Report
  pub reported : IsReport s report
  pub added : new ≡ old ++ report_text report
  pub answered : status ≡ last_status report.last

-- what was read, what blames nobody, and why nothing of it is judged
pub record AddsUnjudged (s : State) (why : Last) (old new : List ℕ) (status : ℕ) : Type 0 where
  pub pairs : List Pair
  pub are : ArePairsOf s.course.sessions pairs
  pub added : new ≡ old ++ unjudged_text (carried Left s) (carried Right s) pairs why
  pub answered : status ≡ last_status why

abbrev pub AddsJudgement : Option Last → State → (old new : List ℕ) → ℕ → Type 0
AddsJudgement None s old new status = AddsReport s old new status
AddsJudgement (Some why) s old new status = AddsUnjudged s why old new status
