-- What is written of a capture of which nothing is judged: the lines of its connections that blame nobody, and why.
use Rattle.std.specs.Prelude.{ℕ, if◌then◌else◌, Bool, true, false, List, [], ◌++◌}
use Rattle.std.specs.List.{flat_map}
use Rattle.osi_side.specs.declared.directions.Direction.{Direction}
use Rattle.osi_side.specs.declared.directions.Direction.TheVariants as side
use Rattle.osi_report.specs.declared.reports.Pair.{Pair}
use Rattle.osi_report.specs.declared.reports.Transport.{Transport as Carried}
use Rattle.osi_report.specs.declared.reports.Last.{Last}
use Rattle.osi_report.specs.ReportTexts.{last_line, pair_lines, read_lines}
use Rattle.osi_judge.specs.declared.outcomes.Outcome.{Outcome}
use Rattle.osi_judge.specs.declared.outcomes.Outcome.TheVariants as outcome
use Rattle.osi_report.specs.declared.told.Connection.{Connection}
use Rattle.osi_report.specs.declared.told.Connection.TheVariants.{Session}
use Rattle.osi_report.specs.ToldTexts.{connection_lines}

-- the lines of a connection of a side say that it broke the protocol or left the profile
abbrev pub blames_told : Outcome → Bool
blames_told (outcome.Broke offset by) = true
blames_told (outcome.Left offset by) = true
blames_told t = false

abbrev pub blames_on : Connection → Bool
blames_on (Session reference t) = blames_told t
blames_on c = false

-- the lines of a connection of a side, unless they do
abbrev pub quiet_on : Direction → Connection → List ℕ
quiet_on d c = if blames_on c then [] else connection_lines d c

-- of both sides
abbrev pub quiet_lines : Pair → List ℕ
quiet_lines p = quiet_on side.Left p.left ++ quiet_on side.Right p.right

-- the lines of a connection, if the capture is judged or not
abbrev pub lines_if : (is_judged : Bool) → Pair → List ℕ
lines_if true p = pair_lines p
lines_if false p = quiet_lines p

-- what was read of both sides, what blames nobody, and why nothing is judged
unfoldable pub unjudged_text : (left right : Carried) → List Pair → Last → List ℕ
unjudged_text left right pairs why = read_lines left right ++ flat_map (lines_if false) pairs ++ last_line why
