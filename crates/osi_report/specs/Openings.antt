-- Whether anything of a capture is judged: it has octets of both sides, and does not begin in the middle of a connection.
use Rattle.std.specs.Prelude.{◌≡◌, ◌==◌, ◌/◌, ◌&&◌, ◌||◌, not, nat_lt, ℕ, Bool, true, false, List, length, Option, Some, None, is_some}
use Rattle.std.specs.Prelude.{slice_get}
use Rattle.osi_tpkt.specs.Stream.{offset_of}
use Rattle.osi_side.specs.declared.directions.Direction.TheVariants.{Left, Right}
use Rattle.osi_side.specs.Captures.{Capture, stream}
use Rattle.osi_judge.specs.declared.marks.Mark.{Mark}
use Rattle.osi_judge.specs.declared.marks.UnitKind.{UnitKind}
use Rattle.osi_judge.specs.declared.marks.UnitKind.TheVariants.{Cr}
use Rattle.osi_judge.specs.Courses.{marks_of}
use Rattle.osi_judge.specs.States.{State, comes_to}
use Rattle.osi_report.specs.declared.openings.Opening.{Opening}
use Rattle.osi_report.specs.declared.reports.Last.{Last}
use Rattle.osi_report.specs.declared.reports.Last.TheVariants.{NoOctets, OneDirection, BeginsLate}

abbrev pub is_cr : Option UnitKind → Bool
is_cr (Some Cr) = true
is_cr unit = false

-- the code of the first transport unit of a stream: it comes after the header of the packet, and the length of the unit's own header
abbrev pub first_code : List ℕ → Option ℕ
first_code octets = slice_get octets 5

-- of a unit that is no CR: an AK, an ER, a DR, a DC, a CC or a DT, by the upper half of the code (X.224 section 13)
abbrev pub is_half_of_another : (half : ℕ) → Bool
is_half_of_another half = (half == 6) || (half == 7) || (half == 8) || (half == 12) || (half == 13) || (half == 15)

abbrev pub is_another : Option ℕ → Bool
is_another None = false
is_another (Some code) = is_half_of_another (code / 16)

-- A CR of the called side passed before any packet of the side that called. It is judged as what it is.
abbrev pub is_request : Option Mark → Bool
is_request None = false
is_request (Some m) = is_cr m.unit

abbrev pub called_back : State → Bool
called_back s = is_request (marks_of Right s.course).broke && not (is_some (marks_of Left s.course).broke)

-- a capture begins in the middle of a connection: the first packet of the side that called is whole, and has another unit than a CR
abbrev pub begins_late : State → (left : List ℕ) → Bool
begins_late s left = nat_lt 0 s.left.packets && is_another (first_code left) && not (called_back s)

-- It may still turn out that it does: no packet of the side that called is whole, and its code has not passed, or is of another unit.
-- If its octets begin no packet, none will be.
abbrev pub is_undecided : Option ℕ → Bool
is_undecided None = true
is_undecided (Some code) = is_another (Some code)

abbrev pub may_be_late : State → (left : List ℕ) → Bool
may_be_late s left = (s.left.packets == 0) && is_undecided (first_code left) && not (is_some (marks_of Left s.course).broke)

abbrev pub has_no_octets : State → Bool
has_no_octets s = (s.left.octets == 0) && (s.right.octets == 0)

-- One direction alone is here, or none: a side sent no octet. What it sent may be missing, so nothing can be known of the other side:
-- whoever has no answer yet, and whoever goes on without one, looks the same.
abbrev pub lacks_a_side : State → Bool
lacks_a_side s = (s.left.octets == 0) || (s.right.octets == 0)

abbrev pub unjudged_by : (empty lacking late : Bool) → Option Last
unjudged_by true lacking late = Some NoOctets
unjudged_by false true late = Some OneDirection
unjudged_by false false true = Some BeginsLate
unjudged_by false false false = None

abbrev pub unjudged_in : State → (left : List ℕ) → Option Last
unjudged_in s left = unjudged_by (has_no_octets s) (lacks_a_side s) (begins_late s left)

-- why nothing of a capture is judged, if that is so
abbrev pub unjudged : Capture → Option Last
unjudged capture = unjudged_in (comes_to capture) (stream Left capture)

-- what is known of the octets that left sent first
pub record Opens (o : Opening) (left : List ℕ) : Type 0 where
  pub passed : o.passed ≡ offset_of (length left)
  pub code : o.code ≡ first_code left
