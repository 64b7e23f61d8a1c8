-- While no side has broken a rule for which a connection is not judged any more, each is judged, and a name has one place.
-- For the law on places.
use Rattle.osi_blameless.proofs.transport.Vocabulary.{arith, [], ap, Bool, false, if◌then◌else◌, List, None, Option, refl, Some, sym, true}
use Rattle.osi_blameless.proofs.transport.Vocabulary.{ℕ, ◌∙◌, ◌∷◌}
use Rattle.osi_blameless.proofs.transport.Vocabulary.{◌≡◌, position_or_len, position, slice_get, Connect, Value, is_applied, reach_of}
use Rattle.osi_blameless.proofs.transport.Vocabulary.{begins, is_live}
use Rattle.osi_blameless.proofs.transport.Vocabulary.{is_named, asked_by, asks_by, asks_kept, at_found, at_place, class_for}
use Rattle.osi_blameless.proofs.transport.Vocabulary.{connection_after}
use Rattle.osi_blameless.proofs.transport.Vocabulary.{course_after}
use Rattle.osi_blameless.proofs.transport.Vocabulary.{found_on, fresh, is_stopped, none_told, one_told, Outcome, route, routed}
use Rattle.osi_blameless.proofs.transport.Vocabulary.{Traffic as State}
use Rattle.osi_blameless.proofs.transport.Vocabulary.{unnamed_told, Connection, Course, Direction, Finding, NotJudged, Route, Asks, Named}
use Rattle.osi_blameless.proofs.transport.Vocabulary.{Only, Unnamed}
use Rattle.osi_blameless.proofs.transport.Vocabulary.{all_passed, packet, passes, Passing, rubbish, unit}
use Rattle.osi_blameless.proofs.transport.small_facts_that_many_lemmas_use.{begins_judged, sized_judged}
use Rattle.osi_blameless.proofs.transport.names.what_holds_of_one_item.{HoldsOfEach, each_add, each_map, each_set, first_true}
use Rattle.osi_blameless.proofs.transport.names.a_reference_names_one_connection.{names_one, no_item}
use Rattle.osi_blameless.proofs.transport.names.a_right_unit_is_not_blamed.{first_there, is_first}

-- ---- what keeps it so

abbrev pub IsJudged : Connection → Type 0
IsJudged c = c.is_judged ≡ true

abbrev pub AreJudged : State → Type 0
AreJudged s = s.course.loose ≡ false → HoldsOfEach IsJudged s.connections

after_firm : (d : Direction) (c : Connection) (v : Value) (applied : Bool) (course : Course) →
    (course_after d c v applied course).loose ≡ course.loose
after_firm d c v applied course = grind arith

-- ---- by the way that a unit takes

to_none : (d : Direction) (f : Finding) (s : State) → AreJudged s → AreJudged (none_told d f s).state
to_none d f s a h = a (grind arith)

to_unnamed : (d : Direction) (v : Value) (s : State) → AreJudged s → AreJudged (unnamed_told d v s).state
to_unnamed d v s a h = search arith

to_one : (d : Direction) (p : ℕ) (c : Connection) (v : Value) (s : State) → slice_get s.connections p ≡ Some c → AreJudged s →
    AreJudged (one_told d p c v s).state
to_one d p c v s at a h =
    let applied = is_applied (found_on d s c v) in
    let how_far = reach_of (class_for d s.course) (found_on d s c v) in
    let course = course_after d c v applied s.course in
    let was = a (sym (after_firm d c v applied s.course) ∙ (grind arith)) in
    each_set IsJudged s.connections p (connection_after d v applied how_far c) was
    ((grind (arith, sized_judged)) ∙ was p c at)

by_item : (d : Direction) (v : Value) (s : State) (p : ℕ) (o : Option Connection) → slice_get s.connections p ≡ o → AreJudged s →
    AreJudged (at_found d v s p o).state
by_item d v s p None at a = to_unnamed d v s a
by_item d v s p (Some c) at a = to_one d p c v s at a

by_place : (d : Direction) (v : Value) (s : State) (p : Option ℕ) → AreJudged s → AreJudged (at_place d v s p).state
by_place d v s None a = to_unnamed d v s a
by_place d v s (Some p) a = by_item d v s p (slice_get s.connections p) refl a

placed_judged : (x : Connect) (s : State) (p : Option ℕ) → AreJudged s → AreJudged (asks_kept x s p).state
placed_judged x s (Some p) a h = each_set IsJudged s.connections p (asked_by x) (a h) refl
placed_judged x s None a h = each_add IsJudged s.connections (asked_by x) (a h) refl

asking : (d : Direction) (f : Finding) (x : Connect) (s : State) → AreJudged s → AreJudged (asks_by d f x s).state
asking d f x s a = search (arith, placed_judged, to_none)

by_route : (d : Direction) (v : Value) (s : State) (r : Route) → AreJudged s → AreJudged (routed d v s r).state
by_route d v s Asks a = grind (arith, asking, to_none)
by_route d v s (Named n) a = by_place d v s (position (is_named d n) s.connections) a
by_route d v s Only a = by_place d v s (position (is_live d) s.connections) a
by_route d v s (Unnamed finding) a = to_none d finding s a

abbrev StaysJudged : Outcome → Type 0
StaysJudged o = AreJudged o.state

if_judged : (stopped : Bool) (d : Direction) (v : Value) (s : State) (r : Route) → AreJudged s →
    StaysJudged (if stopped then none_told d NotJudged s else routed d v s r)
if_judged true d v s r a = to_none d NotJudged s a
if_judged false d v s r a = by_route d v s r a

pub still_judged : (passing : Passing) (s : State) → AreJudged s → AreJudged (passes passing s)
still_judged (packet d) s a h = each_map IsJudged (begins d) s.connections (a (sym (grind arith) ∙ h))
    (λ c j. begins_judged d c ∙ j)
still_judged (unit d v) s a h = if_judged (is_stopped d s.course) d v s (route d s.course v) a h
still_judged (rubbish d) s a h = a (grind arith)

pub all_judged : (ps : List Passing) (s : State) → AreJudged s → AreJudged (all_passed ps s)
all_judged [] s a = a
all_judged (p ∷ ps) s a = all_judged ps (passes p s) (still_judged p s a)

-- ---- the place of a name

pub place_is : (ps : List Passing) (d : Direction) (n p : ℕ) (c : Connection) →
    slice_get (all_passed ps fresh).connections p ≡ Some c → is_named d n c ≡ true → (all_passed ps fresh).course.loose ≡ false →
    position (is_named d n) (all_passed ps fresh).connections ≡ Some p
place_is ps d n p c at named firm =
    let s = all_passed ps fresh in
    let judged = all_judged ps fresh (λ h i e there. no_item i e there) firm in
    let q = position_or_len (is_named d n) s.connections in
    let first = is_first (is_named d n) s.connections p c at named in
    let (e, there) = first_there (is_named d n) s.connections p q c first in
    let so = first_true (is_named d n) s.connections q e first there in
    let same : p ≡ q = names_one ps d n p q c e at there (judged p c at) (judged q e there) named so in
    first ∙ ap (λ (i : ℕ). Some i) (sym same)
