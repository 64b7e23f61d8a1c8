-- The lines of what is told of a side of a connection, and the last line, if it names a session that was first.
use Rattle.std.specs.Prelude.{ℕ, List, [], ◌++◌, codes}
use Rattle.osi_side.specs.declared.directions.Direction.{Direction}
use Rattle.osi_listing.specs.Lines.{number_field}
use Rattle.osi_judge.specs.declared.outcomes.Outcome.{Outcome}
use Rattle.osi_judge.specs.declared.outcomes.Outcome.TheVariants as outcome
use Rattle.osi_judge.specs.declared.outcomes.Violation.{Violation}
use Rattle.osi_report.specs.declared.told.Connection.{Connection}
use Rattle.osi_report.specs.declared.told.Connection.TheVariants.{Silent, Refused, Unanswered, Session}
use Rattle.osi_report.specs.Names.{side_name}
use Rattle.osi_report.specs.Lines.{kept_line, broke_lines, leaves_line, without_line, break_text, outside_text}

abbrev pub told_lines : Direction → (reference : ℕ) → Outcome → List ℕ
told_lines d reference (outcome.Kept tsdus state owes) = kept_line d reference tsdus state owes
told_lines d reference (outcome.Broke offset by) = broke_lines d reference offset by
told_lines d reference (outcome.Left offset by) = leaves_line d reference offset by
told_lines d reference outcome.TooMany = without_line d reference (codes " too many")

abbrev pub connection_lines : Direction → Connection → List ℕ
connection_lines d Silent = []
connection_lines d (Refused reference) = without_line d reference (codes " refused")
connection_lines d (Unanswered reference) = without_line d reference (codes " unanswered")
connection_lines d (Session reference t) = told_lines d reference t

-- ---- the last line

abbrev pub who_text : Direction → (what : List ℕ) → List ℕ
who_text d what = side_name d ++ what

abbrev pub where_text : (offset : ℕ) → List ℕ
where_text offset = number_field (codes " first, packet ") offset ++ codes ": "

unfoldable pub first_text : Direction → (what : List ℕ) → (offset : ℕ) → List ℕ
first_text d what offset = who_text d what ++ where_text offset

unfoldable pub broke_first : Direction → (offset : ℕ) → Violation → List ℕ
broke_first d offset by = first_text d (codes " broke the protocol") offset ++ break_text by ++ codes "\n"

unfoldable pub left_first : Direction → (offset : ℕ) → Violation → List ℕ
left_first d offset by = first_text d (codes " leaves the profile") offset ++ outside_text by
