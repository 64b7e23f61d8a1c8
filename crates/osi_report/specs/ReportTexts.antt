-- The text of a report on all connections of a byte connection.
use Rattle.std.specs.Prelude.{ℕ, ◌==◌, ◌&&◌, not, if◌then◌else◌, Bool, true, false, List, [], ◌++◌, codes, Option, Some, None}
use Rattle.std.specs.List.{flat_map}
use Rattle.osi_side.specs.declared.directions.Direction.{Direction}
use Rattle.osi_side.specs.declared.directions.Direction.TheVariants as side
use Rattle.osi_judge.specs.declared.marks.Cause.{Cause}
use Rattle.osi_judge.specs.declared.marks.Cause.TheVariants.{Outside}
use Rattle.osi_judge.specs.declared.marks.Mark.{Mark}
use Rattle.osi_listing.specs.Lines.{number_field}
use Rattle.osi_report.specs.declared.reports.Pair.{Pair}
use Rattle.osi_report.specs.declared.reports.Transport.{Transport as Carried}
use Rattle.osi_report.specs.declared.reports.Last.{Last}
use Rattle.osi_report.specs.declared.reports.Last.TheVariants.{BothKept, Broke, Left, Transport, TooManySessions, Limit}
use Rattle.osi_report.specs.declared.reports.Last.TheVariants.{TooManyConnections, NoOctets, OneDirection, BeginsLate}
use Rattle.osi_report.specs.Reports.{Report}
use Rattle.osi_report.specs.declared.told.Connection.{Connection}
use Rattle.osi_report.specs.declared.told.Connection.TheVariants.{Session}
use Rattle.osi_judge.specs.declared.outcomes.Outcome.TheVariants.{Kept}
use Rattle.osi_report.specs.Names.{side_name}
use Rattle.osi_report.specs.Causes.{marked_at_name, cause_name}
use Rattle.osi_report.specs.Lines.{reading_line, without_line}
use Rattle.osi_report.specs.ToldTexts.{connection_lines, first_text, broke_first, left_first}

-- ---- transport

abbrev pub is_side : Direction → Direction → Bool
is_side side.Left side.Left = true
is_side side.Right side.Right = true
is_side side.Left side.Right = false
is_side side.Right side.Left = false

-- what a mark is at, and what was found there
unfoldable pub mark_text : Mark → List ℕ
mark_text m = marked_at_name m ++ codes " " ++ cause_name m.cause

-- the side left the profile
abbrev pub is_outside : Cause → Bool
is_outside Outside = true
is_outside cause = false

abbrev pub mark_verb : (is_outside : Bool) → List ℕ
mark_verb true = codes " leaves packet "
mark_verb false = codes " broke packet "

-- the transport of a side that broke a rule, or left the profile
unfoldable pub mark_line : Direction → Mark → List ℕ
mark_line d m = side_name d ++ number_field (mark_verb (is_outside m.cause)) m.offset ++ codes " " ++ mark_text m ++ codes "\n"

abbrev pub mark_lines : Direction → Option Mark → List ℕ
mark_lines d None = []
mark_lines d (Some m) = mark_line d m

-- a side of which nothing more is judged, and the packet after which that is so
unfoldable pub halt_line : Direction → Mark → List ℕ
halt_line d m =
    side_name d ++ codes " not judged after " ++ side_name m.direction ++ number_field (codes " packet ") m.offset ++ codes " "
    ++ mark_text m ++ codes "\n"

abbrev pub halt_lines : Direction → Option Mark → List ℕ
halt_lines d None = []
halt_lines d (Some m) = halt_line d m

-- the packet of a mark is of this side
abbrev pub is_of : Direction → Option Mark → Bool
is_of d None = false
is_of d (Some m) = is_side d m.direction

-- two marks are of packets at one offset
abbrev pub is_at : Option Mark → Option Mark → Bool
is_at (Some m) (Some k) = m.offset == k.offset
is_at None k = false
is_at (Some m) None = false

-- The packet with the first break of a side ends the judging of this side alone. Then the line of that break says all.
abbrev pub ends_itself : Direction → (own other : Carried) → Bool
ends_itself d own other = is_of d own.halted && is_at own.broke own.halted && not (is_of d other.halted)

abbrev pub halt_told : Direction → (own other : Carried) → Option Mark
halt_told d own other = if ends_itself d own other then None else own.halted

-- of both sides
unfoldable pub transport_lines : (left right : Carried) → List ℕ
transport_lines left right =
    mark_lines side.Left left.broke ++ mark_lines side.Right right.broke ++ halt_lines side.Left (halt_told side.Left left right)
    ++ halt_lines side.Right (halt_told side.Right right left)

-- ---- connections

-- of a session that kept the protocol as long as it was judged
abbrev pub limit_lines : Direction → Connection → List ℕ
limit_lines d (Session reference (Kept tsdus state owes)) = without_line d reference (codes " not judged Limit")
limit_lines d c = []

abbrev pub over_lines : (over : Bool) → (left right : Connection) → List ℕ
over_lines true left right = limit_lines side.Left left ++ limit_lines side.Right right
over_lines false left right = []

-- both sides of one
abbrev pub pair_lines : Pair → List ℕ
pair_lines p = connection_lines side.Left p.left ++ connection_lines side.Right p.right ++ over_lines p.over p.left p.right

-- ---- the last line

abbrev pub first_verb : (is_outside : Bool) → List ℕ
first_verb true = codes " leaves the profile"
first_verb false = codes " broke the protocol"

unfoldable pub mark_first : Direction → Mark → List ℕ
mark_first d m = first_text d (first_verb (is_outside m.cause)) m.offset ++ mark_text m ++ codes "\n"

abbrev pub last_line : Last → List ℕ
last_line BothKept = codes "both kept the protocol\n"
last_line (Broke d offset by) = broke_first d offset by
last_line (Left d offset by) = left_first d offset by
last_line (Transport d m) = mark_first d m
last_line TooManySessions = codes "not judged: too many sessions explain a side\n"
last_line Limit = codes "not judged: more passed on a connection than is kept\n"
last_line TooManyConnections = codes "not judged: there are more than 128 connections at once\n"
last_line NoOctets = codes "not judged: no octets\n"
last_line OneDirection = codes "not judged: only one direction is here\n"
last_line BeginsLate = codes "not judged: the capture begins in the middle of a connection\n"

-- ---- the report

-- what was read of both sides
unfoldable pub read_lines : (left right : Carried) → List ℕ
read_lines left right = reading_line side.Left left.reading ++ reading_line side.Right right.reading

-- what was read, and what is reported of each connection and of transport
unfoldable pub report_front : Report → List ℕ
report_front r = read_lines r.left r.right ++ flat_map pair_lines r.pairs ++ transport_lines r.left r.right

-- and who was first
unfoldable pub report_text : Report → List ℕ
report_text r = report_front r ++ last_line r.last

abbrev pub last_status : Last → ℕ
last_status BothKept = 0
last_status last = 1
