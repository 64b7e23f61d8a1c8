-- A break of a side is kept, whatever passes after it, and what else a unit changes notes no break: for the law on what is
-- kept of breaks.
use Rattle.std.proofs.Common.{arith}
use Rattle.osi_rules.proofs.Vocabulary.{◌≡◌, ℕ, Bool, true, false, Option, Some, None, refl, ap, ◌∙◌, if◌then◌else◌, slice_get, position}
use Rattle.osi_rules.proofs.Vocabulary.{◌||◌, ◌&&◌, Value, Connect, request, confirm, disconnect, disconnected, data0, data2, acknowledge}
use Rattle.osi_rules.proofs.Vocabulary.{error, Connection, Course, Direction, Left, Right, Finding, Kept, Broke, Outside, TooMany}
use Rattle.osi_rules.proofs.Vocabulary.{NotJudged, Reach, Route, Asks, Named, Only, Unnamed, reach_of, is_break, first_failed, is_live}
use Rattle.osi_rules.proofs.Vocabulary.{is_named, State, Outcome, class_for, course_after, course_after_none, found_on, has_erred, noted}
use Rattle.osi_rules.proofs.Vocabulary.{of_side, one_told, unnamed_told, none_told, at_found, at_place, asks_by, asks_of, request_tests}
use Rattle.osi_rules.proofs.Vocabulary.{reached, routed, route, is_stopped, takes}
use Rattle.osi_rules.specs.declared.findings.Reach.TheVariants as reach

-- what has been found of neither side is different
abbrev IsSame : Course → Course → Type 0
IsSame a b = (a.left_erred ≡ b.left_erred) × (a.right_erred ≡ b.right_erred)

joined : (a b c : Course) → IsSame a b → IsSame b c → IsSame a c
joined a b c (l, r) (m, s) = (l ∙ m, r ∙ s)

reached_same : (d : Direction) (r : Reach) (c : Course) → IsSame (reached d r c) c
reached_same d reach.Nothing c = (refl, refl)
reached_same d reach.Connection c = (refl, refl)
reached_same Left reach.Side c = (refl, refl)
reached_same Right reach.Side c = (refl, refl)
reached_same d reach.Everything c = (refl, refl)

after_same : (d : Direction) (c : Connection) (v : Value) (applied : Bool) (course : Course) →
    IsSame (course_after d c v applied course) course
after_same d c (request r) applied course = (refl, refl)
after_same d c (confirm destination r) true course = (refl, refl)
after_same d c (confirm destination r) false course = (refl, refl)
after_same d c (disconnect destination source reason user) applied course = (refl, refl)
after_same d c (disconnected destination source) applied course = (refl, refl)
after_same d c (data0 end user) applied course = (refl, refl)
after_same d c (data2 destination number end user) applied course = (refl, refl)
after_same d c (acknowledge credit destination number) applied course = (refl, refl)
after_same d c (error destination cause) applied course = (refl, refl)

none_same : (d : Direction) (v : Value) (course : Course) → IsSame (course_after_none d v course) course
none_same d (disconnect destination source reason user) course = (refl, refl)
none_same d (request r) course = (refl, refl)
none_same d (confirm destination r) course = (refl, refl)
none_same d (disconnected destination source) course = (refl, refl)
none_same d (data0 end user) course = (refl, refl)
none_same d (data2 destination number end user) course = (refl, refl)
none_same d (acknowledge credit destination number) course = (refl, refl)
none_same d (error destination cause) course = (refl, refl)

noted_so : (d e : Direction) (f : Finding) (a b : Course) → IsSame a b → has_erred e (noted d f a) ≡ has_erred e (noted d f b)
noted_so d Left f a b (l, r) = ap (λ (x : Bool). (is_break f && of_side d true false) || x) l
noted_so d Right f a b (l, r) = ap (λ (x : Bool). (is_break f && of_side d false true) || x) r

-- ---- by the way that the unit takes

abbrev IsNoted : Direction → State → Outcome → Type 0
IsNoted d s o = (e : Direction) → has_erred e o.state.course ≡ has_erred e (noted d o.told.finding s.course)

to_none : (d : Direction) (f : Finding) (s : State) → IsNoted d s (none_told d f s)
to_none d f s e =
    let far = reach_of (class_for d s.course) f in
    noted_so d e f (reached d far s.course) s.course (reached_same d far s.course)

to_unnamed : (d : Direction) (v : Value) (s : State) → IsNoted d s (unnamed_told d v s)
to_unnamed d v s e =
    let c = course_after_none d v s.course in
    grind (arith, noted_so, joined, reached_same, none_same)

to_one : (d : Direction) (p : ℕ) (c : Connection) (v : Value) (s : State) → IsNoted d s (one_told d p c v s)
to_one d p c v s e =
    let f = found_on d s c v in
    grind (arith, noted_so, joined, reached_same, after_same)

at_one : (d : Direction) (v : Value) (s : State) (p : ℕ) (c : Option Connection) → IsNoted d s (at_found d v s p c)
at_one d v s p None e = to_unnamed d v s e
at_one d v s p (Some c) e = to_one d p c v s e

at_any : (d : Direction) (v : Value) (s : State) (p : Option ℕ) → IsNoted d s (at_place d v s p)
at_any d v s None e = to_unnamed d v s e
at_any d v s (Some p) e = at_one d v s p (slice_get s.connections p) e

asking : (d : Direction) (f : Finding) (c : Connect) (s : State) → IsNoted d s (asks_by d f c s)
asking d Kept c s e = refl
asking d (Broke rule) c s e = to_none d (Broke rule) s e
asking d Outside c s e = to_none d Outside s e
asking d TooMany c s e = to_none d TooMany s e
asking d NotJudged c s e = to_none d NotJudged s e

asks : (d : Direction) (v : Value) (s : State) → IsNoted d s (asks_of d v s)
asks d (request c) s e = asking d (first_failed (request_tests s c)) c s e
asks d (confirm destination c) s e = to_none d NotJudged s e
asks d (disconnect destination source reason user) s e = to_none d NotJudged s e
asks d (disconnected destination source) s e = to_none d NotJudged s e
asks d (data0 end user) s e = to_none d NotJudged s e
asks d (data2 destination number end user) s e = to_none d NotJudged s e
asks d (acknowledge credit destination number) s e = to_none d NotJudged s e
asks d (error destination cause) s e = to_none d NotJudged s e

by_route : (d : Direction) (v : Value) (s : State) (r : Route) → IsNoted d s (routed d v s r)
by_route d v s Asks e = asks d v s e
by_route d v s (Named reference) e = at_any d v s (position (is_named d reference) s.connections) e
by_route d v s Only e = at_any d v s (position (is_live d) s.connections) e
by_route d v s (Unnamed finding) e = to_none d finding s e

if_judged : (b : Bool) (d : Direction) (v : Value) (s : State) (r : Route) →
    IsNoted d s (if b then none_told d NotJudged s else routed d v s r)
if_judged true d v s r e = to_none d NotJudged s e
if_judged false d v s r e = by_route d v s r e

pub breaks_are_noted : (d : Direction) (v : Value) (s : State) (e : Direction) →
    has_erred e (takes d v s).state.course ≡ has_erred e (noted d (takes d v s).told.finding s.course)
breaks_are_noted d v s e = if_judged (is_stopped d s.course) d v s (route d s.course v) e
