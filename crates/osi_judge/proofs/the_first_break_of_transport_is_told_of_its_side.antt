-- The break of transport that is told as the first is the one that is told of its side: for the law of the first break.
use Rattle.std.proofs.Common.{arith}
use Rattle.osi_judge.proofs.Vocabulary.{◌≡◌, refl, ℕ, Bool, if◌then◌else◌, is_some, List, [], ◌∷◌, length, Option, Some, None, Result}
use Rattle.osi_judge.proofs.Vocabulary.{Reach, Told, Value, TpduFault, Capture, of, Direction, Left, Right, Cause, First, Transport, Mark}
use Rattle.osi_judge.proofs.Vocabulary.{Marks, Judge, Proceedings, IsMarkOf, Course, way_of, marks_of, marked, moved, reached, changes}
use Rattle.osi_judge.proofs.Vocabulary.{breaks, halts, earlier, first_of, first_by, noted_by, unit_passes, units_pass, unread, unread_mark}
use Rattle.osi_judge.proofs.Vocabulary.{unread_moment, packet_by, IsFirst, HoldsBy, HoldsState, IsJudged, first_in, Streamed, counted}
use Rattle.osi_judge.proofs.Vocabulary.{gathered, State, stream_of, with_stream, begun, octet_passes, begin, after, comes_to}
use Rattle.osi_judge.proofs.Vocabulary.{begin_within, Room}
use Rattle.osi_rules.specs.Traffic as traffic
use Rattle.osi_judge.proofs.a_piece_comes_to_what_its_octets_do.{looks}

-- ---- one mark more

broken_if : (b : Bool) (m k : Mark) (z : Marks) → z.broke ≡ Some k
    → (if b then record z { broke = earlier z.broke m } else z).broke ≡ Some k
broken_if b m k z e = grind arith

abbrev marks_in : Direction → (left right : Marks) → Marks
marks_in Left left right = left
marks_in Right left right = right

abbrev IsOne : Direction → First → (left right : Marks) → Type 0
IsOne d f left right = (k : Mark) × ((marks_in d left right).broke ≡ Some k) × (f ≡ first_of k)

-- if there is a first break of transport, its mark is that of its side; if not, no side has one
abbrev AreMarked : Option First → (left right : Marks) → Type 0
AreMarked None left right = (left.broke ≡ None) × (right.broke ≡ None)
AreMarked (Some f) left right = IsOne f.direction f left right

abbrev Marked : Option First → Course → Type 0
Marked o c = AreMarked o c.left c.right

by_mark : (o : Option First) (m : Mark) (c : Course) → Marked o c → Marked (first_by m o) (changes m.direction (breaks m) c)
by_mark o m c h = grind (arith, broken_if)

left_halted : (d : Direction) (f : First) (m : Mark) (l r : Marks) → IsOne d f l r → IsOne d f (halts m l) r
left_halted d f m l r h = grind arith

right_halted : (d : Direction) (f : First) (m : Mark) (l r : Marks) → IsOne d f l r → IsOne d f l (halts m r)
right_halted d f m l r h = grind arith

reached_marks : (o : Option First) (m : Mark) (r : Reach) (c : Course) → Marked o c → Marked o (reached m r c)
reached_marks o m r c h = grind (arith, left_halted, right_halted)

changes_first : (d : Direction) (f : Marks → Marks) (c : Course) → (changes d f c).first ≡ c.first
changes_first d f c = grind arith

reached_first : (m : Mark) (r : Reach) (c : Course) → (reached m r c).first ≡ c.first
reached_first m r c = grind (arith, changes_first)

-- of a course
abbrev IsMarked : Course → Type 0
IsMarked c = Marked c.first c

-- ---- a packet

noted_is : (d : Direction) (at : ℕ) (v : Value) (told : Told) (o : Option Cause) (c : Course) → IsMarked c
    → IsMarked (noted_by d at v told o c)
noted_is d at v told o c h = grind (arith, reached_first, reached_marks, changes_first, by_mark)

units_are : (d : Direction) (at : ℕ) (vs : List Value) (c : Course) → IsMarked c → IsMarked (units_pass d at vs c)
units_are d at [] c h = h
units_are d at (v ∷ vs) c h = units_are d at vs (unit_passes d at v c) (grind (arith, noted_is))

unread_by : (b : Bool) (d : Direction) (at : ℕ) (cause : Cause) (c : Course) → IsMarked c
    → IsMarked (if b then c else marked (unread_mark d at cause) (traffic.refused_reach (way_of d) c.traffic)
    (moved (unread_moment d at cause c.sessions) (record c { traffic = traffic.refused (way_of d) c.traffic })))
unread_by b d at cause c h = grind (arith, reached_first, reached_marks, changes_first, by_mark)

unread_is : (d : Direction) (at : ℕ) (cause : Cause) (c : Course) → IsMarked c → IsMarked (unread d at cause c)
unread_is d at cause c h = unread_by (is_some (marks_of d c).halted) d at cause c h

read_is : (d : Direction) (at : ℕ) (read : Result (List Value) TpduFault) (c : Course) → IsMarked c → IsMarked (packet_by d at read c)
read_is d h h2 c h3 = grind (arith, units_are, unread_is)

-- ---- octets

with_is : (d : Direction) (t : Streamed) (s : State) → IsMarked s.course → IsMarked (with_stream d t s).course
with_is d t s h = grind arith

octet_by : (b : Bool) (d : Direction) (os : List ℕ) (s : State) → IsMarked s.course
    → IsMarked (if b then with_stream d (counted (length os) (stream_of d s)) s
    else looks d (gathered os (stream_of d s)) (begun d (stream_of d s).held s)).course
octet_by b d os s h = search (arith, with_is, unread_is, read_is)

after_is : (capture : Capture) (s : State) → IsMarked s.course → IsMarked (after capture s).course
after_is [] s h = h
after_is (of d o ∷ capture) s h =
    after_is capture (octet_passes (of d o) s) (octet_by (stream_of d s).spent d (o ∷ []) s h)

-- ---- what a judge tells

first_by_side : (f : First) (o : Option First) (c : Course) → f.layer ≡ Transport → IsFirst (Some f) o → Marked o c
    → IsMarkOf f.direction f c
first_by_side f o c e h k = grind arith

held_by : (due : Option Direction) (w : Proceedings) (l r : Streamed) (s : State) → due ≡ None → HoldsBy due w l r s
    → IsFirst w.first s.course.first
held_by due w l r s e h = grind arith

pub first_mark : (capture : Capture) (t : Judge) (f : First) → HoldsState t (comes_to capture) → IsJudged t → first_in t ≡ Some f
    → f.layer ≡ Transport → IsMarkOf f.direction f (comes_to capture).course
first_mark capture t f h judged e layer = grind (arith, first_by_side, held_by, after_is capture begin (refl, refl))

-- the same, if of each connection so much is judged
pub first_mark_within : (room : Room) (capture : Capture) (t : Judge) (f : First) → HoldsState t (after capture (begin_within room))
    → IsJudged t → first_in t ≡ Some f → f.layer ≡ Transport → IsMarkOf f.direction f (after capture (begin_within room)).course
first_mark_within room capture t f h judged e layer =
    grind (arith, first_by_side, held_by, after_is capture (begin_within room) (refl, refl))
