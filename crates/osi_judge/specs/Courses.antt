-- What has passed on a byte connection, and what a unit or a packet does to it.
use Rattle.std.specs.Prelude.{ℕ, ◌∷◌, ◌++◌, [], Bool, true, false, if◌then◌else◌, List, slice_get, Option, Some, None, is_some, option_map}
use Rattle.std.specs.Prelude.{Result, Ok, Err}
use Rattle.osi_tpdu.specs.Packet.{units_of}
use Rattle.osi_tpdu.specs.Value.{Value, request, confirm, disconnect, disconnected, data0, data2, acknowledge, error}
use Rattle.osi_tpdu.specs.declared.faults.TpduFault.{TpduFault}
use Rattle.osi_side.specs.declared.directions.Direction.{Direction}
use Rattle.osi_side.specs.declared.directions.Direction.TheVariants.{Left, Right}
use Rattle.osi_rules.specs.declared.directions.Direction.{Direction as Way}
use Rattle.osi_rules.specs.declared.directions.Direction.TheVariants as way
use Rattle.osi_rules.specs.declared.findings.Finding.{Finding}
use Rattle.osi_rules.specs.declared.findings.Finding.TheVariants as finding
use Rattle.osi_rules.specs.declared.findings.Reach.{Reach}
use Rattle.osi_rules.specs.declared.findings.Reach.TheVariants as reach
use Rattle.osi_rules.specs.declared.findings.Told.{Told}
use Rattle.osi_rules.specs.Traffic as traffic
use Rattle.osi_judge.specs.declared.marks.Cause.{Cause}
use Rattle.osi_judge.specs.declared.marks.Cause.TheVariants.{BadUnit, Broke, Outside, TooMany}
use Rattle.osi_judge.specs.declared.marks.First.{First}
use Rattle.osi_judge.specs.declared.marks.Layer.TheVariants.{Transport}
use Rattle.osi_judge.specs.declared.marks.Mark.{Mark}
use Rattle.osi_judge.specs.declared.marks.Marks.{Marks}
use Rattle.osi_judge.specs.declared.marks.UnitKind.{UnitKind}
use Rattle.osi_judge.specs.declared.marks.UnitKind.TheVariants as kind
use Rattle.osi_judge.specs.declared.rooms.Room.{Room}
use Rattle.osi_judge.specs.Connections.{Joined, Sessions, none, all_begin, taken}

-- what passed at one moment, a unit or octets that can't be read: the side that sent it, the offset of the packet in its direction,
-- what was found of the transport, and the connections after it
pub record Moment : Type 0 where
  pub direction : Direction
  pub at : ℕ
  pub mark : Option Mark
  pub sessions : Sessions

-- the transport, the connections, what was found of the transport of each side, which break of transport was first, and the moments
-- in the order in which they passed
pub record Course : Type 0 where
  pub traffic : traffic.State
  pub sessions : Sessions
  pub left : Marks
  pub right : Marks
  pub first : Option First
  pub past : List Moment

abbrev pub unmarked : Marks
unmarked = record { broke = None; halted = None }

abbrev pub fresh : Course
fresh = record { traffic = traffic.fresh; sessions = none; left = unmarked; right = unmarked; first = None; past = [] }

-- of each connection so much may be kept
abbrev pub fresh_within : Room → Course
fresh_within room = record fresh { sessions = record none { room = room } }

-- a direction as `osi_rules` names it
abbrev pub way_of : Direction → Way
way_of Left = way.Left
way_of Right = way.Right

-- a packet of a side begins
abbrev pub packet_begins : Direction → Course → Course
packet_begins d c = record c { traffic = traffic.packet_begins (way_of d) c.traffic; sessions = all_begin d c.sessions }

-- ---- what is found of the transport of a side

abbrev pub kind_of : Value → UnitKind
kind_of (request c) = kind.Cr
kind_of (confirm destination c) = kind.Cc
kind_of (disconnect destination source reason user) = kind.Dr
kind_of (disconnected destination source) = kind.Dc
kind_of (data0 end user) = kind.Dt
kind_of (data2 destination number end user) = kind.Dt
kind_of (acknowledge credit destination number) = kind.Ak
kind_of (error destination cause) = kind.Er

abbrev pub cause_of : Finding → Option Cause
cause_of finding.Kept = None
cause_of finding.NotJudged = None
cause_of (finding.Broke rule) = Some (Broke rule)
cause_of finding.Outside = Some Outside
cause_of finding.TooMany = Some TooMany

-- the side broke a rule, or left the profile
abbrev pub is_break : Cause → Bool
is_break TooMany = false
is_break cause = true

abbrev pub earlier : Option Mark → Mark → Option Mark
earlier None m = Some m
earlier (Some k) m = Some k

-- the first break of a side is kept
abbrev pub breaks : Mark → Marks → Marks
breaks m k = if is_break m.cause then record k { broke = earlier k.broke m } else k

-- of both sides too
abbrev pub first_of : Mark → First
first_of m = record { direction = m.direction; layer = Transport; connection = m.connection }

abbrev pub first_by : Mark → Option First → Option First
first_by m None = if is_break m.cause then Some (first_of m) else None
first_by m (Some f) = Some f

-- a mark, or none
abbrev pub first_after : Option Mark → Option First → Option First
first_after None first = first
first_after (Some m) first = first_by m first

abbrev pub first_marked : Mark → Course → Course
first_marked m c = record c { first = first_by m c.first }

-- and the first packet after which nothing more of it is judged
abbrev pub halts : Mark → Marks → Marks
halts m k = record k { halted = earlier k.halted m }

abbrev pub marks_of : Direction → Course → Marks
marks_of Left c = c.left
marks_of Right c = c.right

abbrev pub changes : Direction → (Marks → Marks) → Course → Course
changes Left f c = record c { left = f c.left }
changes Right f c = record c { right = f c.right }

abbrev pub reached : Mark → Reach → Course → Course
reached m reach.Nothing c = c
reached m reach.Connection c = c
reached m reach.Side c = changes m.direction (halts m) c
reached m reach.Everything c = record c { left = halts m c.left; right = halts m c.right }

-- a mark of the side that sent the packet, and how much is not judged any more
abbrev pub marked : Mark → Reach → Course → Course
marked m r c = reached m r (changes m.direction (breaks m) (first_marked m c))

-- ---- a unit

abbrev pub number_of : Joined → ℕ
number_of j = j.number

abbrev pub number_at : Option ℕ → Sessions → Option ℕ
number_at None s = None
number_at (Some place) s = option_map number_of (slice_get s.live place)

abbrev pub mark_by : Direction → (at : ℕ) → Value → Option ℕ → Option Cause → Option Mark
mark_by d at v number None = None
mark_by d at v number (Some cause) =
    Some (record { direction = d; offset = at; unit = Some (kind_of v); connection = number; cause = cause })

abbrev pub mark_of : Direction → (at : ℕ) → Value → Told → Sessions → Option Mark
mark_of d at v told s = mark_by d at v (number_at told.place s) (cause_of told.finding)

abbrev pub noted_by : Direction → (at : ℕ) → Value → Told → Option Cause → Course → Course
noted_by d at v told None c = c
noted_by d at v told (Some cause) c = marked
    (record {
      direction = d;
      offset = at;
      unit = Some (kind_of v);
      connection = number_at told.place c.sessions;
      cause = cause;
    }) told.reach c

-- what was found of a unit
abbrev pub noted : Direction → (at : ℕ) → Value → Told → Course → Course
noted d at v told c = noted_by d at v told (cause_of told.finding) c

-- one moment more has passed, after which these are the connections
abbrev pub moved : Moment → Course → Course
moved m c = record c { sessions = m.sessions; past = c.past ++ m ∷ [] }

-- a unit of which this is told, after which these are the connections
abbrev pub moment_of : Direction → (at : ℕ) → Value → Told → Sessions → Moment
moment_of d at v told s = record { direction = d; at = at; mark = mark_of d at v told s; sessions = s }

-- what a unit does of which this is told: to its connection, and to what is found
abbrev pub applied : Direction → (at : ℕ) → Value → Told → Course → Course
applied d at v told c =
    noted d at v told (moved (moment_of d at v told (taken d at v told.meaning told.place c.sessions)) c)

-- a unit of a side passes, in the packet at this offset
abbrev pub unit_passes : Direction → (at : ℕ) → Value → Course → Course
unit_passes d at v c =
    let o = traffic.takes (way_of d) v c.traffic in applied d at v o.told (record c { traffic = o.state })

abbrev pub units_pass : Direction → (at : ℕ) → List Value → Course → Course
units_pass d at [] c = c
units_pass d at (v ∷ vs) c = units_pass d at vs (unit_passes d at v c)

-- ---- a packet

abbrev pub unread_mark : Direction → (at : ℕ) → Cause → Mark
unread_mark d at cause = record { direction = d; offset = at; unit = None; connection = None; cause = cause }

abbrev pub unread_moment : Direction → (at : ℕ) → Cause → Sessions → Moment
unread_moment d at cause s = record { direction = d; at = at; mark = Some (unread_mark d at cause); sessions = s }

-- what a side sends at this offset can't be read; of a side of which nothing more is judged that is no break
abbrev pub unread : Direction → (at : ℕ) → Cause → Course → Course
unread d at cause c = if is_some (marks_of d c).halted then c else marked (unread_mark d at cause)
    (traffic.refused_reach (way_of d) c.traffic)
    (moved (unread_moment d at cause c.sessions) (record c { traffic = traffic.refused (way_of d) c.traffic }))

abbrev pub packet_by : Direction → (at : ℕ) → Result (List Value) TpduFault → Course → Course
packet_by d at (Ok vs) c = units_pass d at vs c
packet_by d at (Err fault) c = unread d at (BadUnit fault) c

-- a whole packet with this transport unit passes
abbrev pub packet_passes : Direction → (at : ℕ) → List ℕ → Course → Course
packet_passes d at unit c = packet_by d at (units_of unit) c
