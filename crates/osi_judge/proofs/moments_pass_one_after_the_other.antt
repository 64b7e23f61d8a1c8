-- What passes later comes after the moments that have passed: for the law of the first break.
use Rattle.std.proofs.Common.{arith}
use Rattle.osi_judge.proofs.Vocabulary.{◌≡◌, ◌∙◌, refl, sym, ap, ℕ, Bool, true, false, if◌then◌else◌, List, [], ◌∷◌, ◌++◌, append_assoc}
use Rattle.osi_judge.proofs.Vocabulary.{length, Result, Ok, Err, append-nil, units_of, Value, TpduFault, Capture, of, Direction, Left}
use Rattle.osi_judge.proofs.Vocabulary.{Right, Cause, Course, Moment, way_of, cause_of, marked, moved, unit_passes, units_pass, unread_mark}
use Rattle.osi_judge.proofs.Vocabulary.{unread_moment, packet_by, Front, partial, faulty, whole, front_of, Streamed, counted, gathered}
use Rattle.osi_judge.proofs.Vocabulary.{State, stream_of, with_stream, looked_at, begun, octet_passes, begin, after, comes_to}
use Rattle.osi_rules.specs.Traffic as traffic
use Rattle.osi_judge.proofs.a_piece_comes_to_what_its_octets_do.{looks, after_more}
use Rattle.osi_judge.proofs.no_break_was_before_the_first.{noted_past, marked_past}

abbrev More : (now later : List Moment) → Type 0
More now later = (rest : List Moment) × (later ≡ now ++ rest)

none_more : (a b : List Moment) → b ≡ a → More a b
none_more a b e = ([], e ∙ sym (append-nil a))

then_more : (a b c : List Moment) → More a b → More b c → More a c
then_more a b c h k = (h.0 ++ k.0, k.1 ∙ ap (λ (x : List Moment). x ++ k.0) h.1 ∙ append_assoc a h.0 k.0)

-- ---- a packet

unit_more : (d : Direction) (at : ℕ) (v : Value) (c : Course) → More c.past (unit_passes d at v c).past
unit_more d at v c =
    let told = (traffic.takes (way_of d) v c.traffic).told in (_, noted_past d at v told (cause_of told.finding) _)

units_more : (d : Direction) (at : ℕ) (vs : List Value) (c : Course) → More c.past (units_pass d at vs c).past
units_more d at [] c = none_more c.past c.past refl
units_more d at (v ∷ vs) c =
    let next = unit_passes d at v c in
    then_more c.past next.past (units_pass d at vs next).past (unit_more d at v c) (units_more d at vs next)

unread_by : (b : Bool) (d : Direction) (at : ℕ) (cause : Cause) (c : Course)
    → More c.past (if b then c else marked (unread_mark d at cause) (traffic.refused_reach (way_of d) c.traffic)
    (moved (unread_moment d at cause c.sessions) (record c { traffic = traffic.refused (way_of d) c.traffic }))).past
unread_by true d at cause c = none_more c.past c.past refl
unread_by false d at cause c = (unread_moment d at cause c.sessions ∷ [], marked_past (unread_mark d at cause) _ _)

read_more : (d : Direction) (at : ℕ) (read : Result (List Value) TpduFault) (c : Course) → More c.past (packet_by d at read c).past
read_more d at (Ok vs) c = units_more d at vs c
read_more d at (Err fault) c = grind (arith, unread_by)

-- ---- octets

looked_more : (d : Direction) (t : Streamed) (f : Front) (s : State) → More s.course.past (looked_at d t f s).course.past
looked_more d t partial s = none_more _ _ (grind arith)
looked_more Left t (faulty fault) s = search (arith, unread_by)
looked_more Right t (faulty fault) s = search (arith, unread_by)
looked_more Left t (whole unit) s = read_more Left t.at (units_of unit) s.course
looked_more Right t (whole unit) s = read_more Right t.at (units_of unit) s.course

begun_more : (d : Direction) (held : List ℕ) (s : State) → (begun d held s).course.past ≡ s.course.past
begun_more d held s = grind arith

octet_by : (b : Bool) (d : Direction) (os : List ℕ) (s : State)
    → More s.course.past (if b then with_stream d (counted (length os) (stream_of d s)) s
    else looks d (gathered os (stream_of d s)) (begun d (stream_of d s).held s)).course.past
octet_by true d os s = none_more _ _ (grind arith)
octet_by false d os s =
    let t = gathered os (stream_of d s) in
    let next = begun d (stream_of d s).held s in
    grind (arith, then_more, none_more, begun_more, looks d t next, looked_more d t (front_of t.held) next)

after_grows : (capture : Capture) (s : State) → More s.course.past (after capture s).course.past
after_grows [] s = none_more s.course.past s.course.past refl
after_grows (of d o ∷ capture) s =
    let next = octet_passes (of d o) s in
    search (arith, then_more, octet_by, after_grows capture next)

pub moments_of : (capture more : Capture) → More (comes_to capture).course.past (comes_to (capture ++ more)).course.past
moments_of capture more = grind (arith, after_grows more (comes_to capture), after_more capture more begin)
