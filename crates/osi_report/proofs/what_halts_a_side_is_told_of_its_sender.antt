-- Where a packet that broke a rule ends the judging of a side, a break is told of the side that sent it.
-- For the law that what is printed of a side is found.
use Rattle.std.proofs.Common.{arith, is_some}
use Rattle.osi_report.proofs.Vocabulary.{◌≡◌, refl, ℕ, Bool, false, true, if◌then◌else◌, List, [], ◌∷◌, length, Option, Some, None, Result}
use Rattle.osi_report.proofs.Vocabulary.{TpduFault, Reach, Value, Capture, of, Direction, Cause, Mark, Course, marked, marks_of, noted_by}
use Rattle.osi_report.proofs.Vocabulary.{packet_by, reached, unit_passes, units_pass, unread, Front, Streamed, counted, gathered, State}
use Rattle.osi_report.proofs.Vocabulary.{after, begin, begun, comes_to, looked_at, octet_passes, stream_of, looks, with_stream, Ok, Err}
use Rattle.osi_report.proofs.Vocabulary.{BadPacket, BadUnit, faulty, partial, whole, units_of}
use Rattle.osi_side.specs.declared.directions.Direction.TheVariants as side
use Rattle.osi_rules.specs.Traffic as traffic
use Rattle.osi_rules.specs.declared.findings.Told.{Told}
use Rattle.osi_judge.specs.Connections.{taken}
use Rattle.osi_judge.specs.Courses.{breaks, cause_of, changes, earlier, first_marked, halts, is_break, kind_of, moment_of, moved, number_at}
use Rattle.osi_judge.specs.Courses.{unread_mark, unread_moment, way_of}
use Rattle.osi_judge.specs.Streams.{advanced, ended}
use Rattle.osi_judge.specs.declared.marks.Marks.{Marks}

-- ---- one mark more

abbrev marks_in : Direction → (left right : Marks) → Marks
marks_in side.Left left right = left
marks_in side.Right left right = right

-- a packet is none that broke a rule, or a break is told of the side that sent it
abbrev IsTold : Option Mark → (left right : Marks) → Type 0
IsTold None left right = Unit {0}
IsTold (Some m) left right = is_break m.cause ≡ true → is_some (marks_in m.direction left right).broke ≡ true

-- those that end the judging of a side
record AreTold (left right : Marks) : Type 0 where
  of_left : IsTold left.halted left right
  of_right : IsTold right.halted left right

abbrev Tells : Course → Type 0
Tells c = AreTold c.left c.right

broken_if : (b : Bool) (m : Mark) (z : Marks) → is_some z.broke ≡ true →
    is_some (if b then record z { broke = earlier z.broke m } else z).broke ≡ true
broken_if b m z e = grind arith

left_more : (o : Option Mark) (m : Mark) (l r : Marks) → IsTold o l r → IsTold o (breaks m l) r
left_more o m l r h = grind (arith, broken_if)

right_more : (o : Option Mark) (m : Mark) (l r : Marks) → IsTold o l r → IsTold o l (breaks m r)
right_more o m l r h = grind (arith, broken_if)

-- of the mark itself
own_told : (d : Direction) (m : Mark) (c : Course) → m.direction ≡ d →
    IsTold (Some m) (changes d (breaks m) c).left (changes d (breaks m) c).right
own_told d m c e = grind arith

broken_tells : (m : Mark) (c : Course) → Tells c → Tells (changes m.direction (breaks m) c)
broken_tells m c h = grind (arith, left_more, right_more)

halted_told : (o : Option Mark) (m : Mark) (l r : Marks) → IsTold (Some m) l r → IsTold o l r → IsTold (earlier o m) l r
halted_told o m l r k h = grind arith

left_halts : (o : Option Mark) (m : Mark) (l r : Marks) → IsTold o l r → IsTold o (halts m l) r
left_halts o m l r h = grind arith

right_halts : (o : Option Mark) (m : Mark) (l r : Marks) → IsTold o l r → IsTold o l (halts m r)
right_halts o m l r h = grind arith

reached_tells : (m : Mark) (r : Reach) (c : Course) → IsTold (Some m) c.left c.right → Tells c → Tells (reached m r c)
reached_tells m r c k h = grind (arith, halted_told, left_halts, right_halts)

marked_tells : (m : Mark) (r : Reach) (c : Course) → Tells c → Tells (marked m r c)
marked_tells m r c h =
    reached_tells m r (changes m.direction (breaks m) (first_marked m c)) (own_told m.direction m (first_marked m c) refl)
    (broken_tells m (first_marked m c) h)

-- ---- a packet

noted_tells : (d : Direction) (at : ℕ) (v : Value) (told : Told) (o : Option Cause) (c : Course) → Tells c →
    Tells (noted_by d at v told o c)
noted_tells d at v told None c h = h
noted_tells d at v told (Some cause) c h =
    marked_tells
    (record { direction = d; offset = at; unit = Some (kind_of v); connection = number_at told.place c.sessions; cause = cause })
    told.reach c h

passes_tells : (d : Direction) (at : ℕ) (v : Value) (c : Course) → Tells c → Tells (unit_passes d at v c)
passes_tells d at v c h =
    let o = traffic.takes (way_of d) v c.traffic in
    noted_tells d at v o.told (cause_of o.told.finding)
    (moved (moment_of d at v o.told (taken d at v o.told.meaning o.told.place c.sessions)) (record c { traffic = o.state })) h

units_tell : (d : Direction) (at : ℕ) (vs : List Value) (c : Course) → Tells c → Tells (units_pass d at vs c)
units_tell d at [] c h = h
units_tell d at (v ∷ vs) c h = units_tell d at vs (unit_passes d at v c) (passes_tells d at v c h)

unread_by : (b : Bool) (d : Direction) (at : ℕ) (cause : Cause) (c : Course) → Tells c
    → Tells (if b then c else marked (unread_mark d at cause) (traffic.refused_reach (way_of d) c.traffic)
    (moved (unread_moment d at cause c.sessions) (record c { traffic = traffic.refused (way_of d) c.traffic })))
unread_by true d at cause c h = h
unread_by false d at cause c h =
    marked_tells (unread_mark d at cause) (traffic.refused_reach (way_of d) c.traffic)
    (moved (unread_moment d at cause c.sessions) (record c { traffic = traffic.refused (way_of d) c.traffic })) h

unread_tells : (d : Direction) (at : ℕ) (cause : Cause) (c : Course) → Tells c → Tells (unread d at cause c)
unread_tells d at cause c h = unread_by (is_some (marks_of d c).halted) d at cause c h

read_tells : (d : Direction) (at : ℕ) (read : Result (List Value) TpduFault) (c : Course) → Tells c → Tells (packet_by d at read c)
read_tells d at (Ok vs) c h = units_tell d at vs c h
read_tells d at (Err fault) c h = unread_tells d at (BadUnit fault) c h

-- ---- octets

with_tells : (d : Direction) (t : Streamed) (s : State) → Tells s.course → Tells (with_stream d t s).course
with_tells side.Left t s h = h
with_tells side.Right t s h = h

looked_tells : (d : Direction) (t : Streamed) (f : Front) (s : State) → Tells s.course → Tells (looked_at d t f s).course
looked_tells d t partial s h = with_tells d t s h
looked_tells d t (faulty fault) s h =
    with_tells d (ended t) (record s { course = unread d t.at (BadPacket fault) s.course })
    (unread_tells d t.at (BadPacket fault) s.course h)
looked_tells d t (whole unit) s h =
    with_tells d (advanced t) (record s { course = packet_by d t.at (units_of unit) s.course })
    (read_tells d t.at (units_of unit) s.course h)

begun_tells : (d : Direction) (held : List ℕ) (s : State) → Tells s.course → Tells (begun d held s).course
begun_tells d [] s h = h
begun_tells d (octet ∷ held) s h = h

octet_by : (b : Bool) (d : Direction) (os : List ℕ) (s : State) → Tells s.course
    → Tells (if b then with_stream d (counted (length os) (stream_of d s)) s
    else looks d (gathered os (stream_of d s)) (begun d (stream_of d s).held s)).course
octet_by true d os s h = with_tells d (counted (length os) (stream_of d s)) s h
octet_by false d os s h =
    looked_tells d (gathered os (stream_of d s)) _ (begun d (stream_of d s).held s) (begun_tells d (stream_of d s).held s h)

after_tells : (capture : Capture) (s : State) → Tells s.course → Tells (after capture s).course
after_tells [] s h = h
after_tells (of d o ∷ capture) s h = after_tells capture (octet_passes (of d o) s) (octet_by (stream_of d s).spent d (o ∷ []) s h)

told_by : (d : Direction) (m : Mark) (c : Course) → Tells c → (marks_of d c).halted ≡ Some m → is_break m.cause ≡ true →
    is_some (marks_of m.direction c).broke ≡ true
told_by d m c h e b = grind arith

pub halts_told : (d : Direction) (m : Mark) (capture : Capture) → (marks_of d (comes_to capture).course).halted ≡ Some m →
    is_break m.cause ≡ true → is_some (marks_of m.direction (comes_to capture).course).broke ≡ true
halts_told d m capture e b =
    told_by d m (comes_to capture).course (after_tells capture begin (record { of_left = tt; of_right = tt })) e b
