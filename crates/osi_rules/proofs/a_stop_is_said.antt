-- Nothing more of a side is judged after a unit exactly if that was so before it, or its reach says so: for the laws on
-- stops. By the way that the unit takes, as in a_unit_changes_one_connection.
use Rattle.std.proofs.Common.{arith}
use Rattle.osi_rules.proofs.Vocabulary.{◌≡◌, ℕ, Bool, true, false, Option, Some, None, refl, ap, ◌∙◌, if◌then◌else◌, ◌||◌, slice_get}
use Rattle.osi_rules.proofs.Vocabulary.{position, Value, Connect, request, confirm, disconnect, disconnected, data0, data2, acknowledge}
use Rattle.osi_rules.proofs.Vocabulary.{error, Connection, Course, Direction, Left, Right, Finding, Kept, Broke, Outside, TooMany}
use Rattle.osi_rules.proofs.Vocabulary.{NotJudged, Reach, Route, Asks, Named, Only, Unnamed, reach_of, first_failed, is_live, is_named}
use Rattle.osi_rules.proofs.Vocabulary.{State, Outcome, class_for, course_after, course_after_none, found_on, reached, unnamed, none_told}
use Rattle.osi_rules.proofs.Vocabulary.{one_told, unnamed_told, at_found, at_place, asks_by, asks_of, request_tests, routed, route}
use Rattle.osi_rules.proofs.Vocabulary.{is_stopped, stops_by, takes}
use Rattle.osi_rules.specs.declared.findings.Reach.TheVariants as reach

reached_says : (d : Direction) (r : Reach) (c : Course) (e : Direction) → is_stopped e (reached d r c) ≡ (stops_by d r e || is_stopped e c)
reached_says d reach.Nothing c e = refl
reached_says d reach.Connection c Left = refl
reached_says d reach.Connection c Right = refl
reached_says Left reach.Side c Left = refl
reached_says Left reach.Side c Right = refl
reached_says Right reach.Side c Left = refl
reached_says Right reach.Side c Right = refl
reached_says d reach.Everything c Left = refl
reached_says d reach.Everything c Right = refl

-- ---- what else a unit changes of the course stops nothing

keeps : (d : Direction) (c : Connection) (v : Value) (applied : Bool) (course : Course) (e : Direction) →
    is_stopped e (course_after d c v applied course) ≡ is_stopped e course
keeps d c (request r) applied course e = refl
keeps d c (confirm destination r) true course Left = refl
keeps d c (confirm destination r) true course Right = refl
keeps d c (confirm destination r) false course e = refl
keeps d c (disconnect destination source reason user) applied course Left = refl
keeps d c (disconnect destination source reason user) applied course Right = refl
keeps d c (disconnected destination source) applied course e = refl
keeps d c (data0 end user) applied course e = refl
keeps d c (data2 destination number end user) applied course e = refl
keeps d c (acknowledge credit destination number) applied course e = refl
keeps d c (error destination cause) applied course e = refl

keeps_none : (d : Direction) (v : Value) (course : Course) (e : Direction) →
    is_stopped e (course_after_none d v course) ≡ is_stopped e course
keeps_none d (request r) course e = refl
keeps_none d (confirm destination r) course e = refl
keeps_none d (disconnect destination source reason user) course Left = refl
keeps_none d (disconnect destination source reason user) course Right = refl
keeps_none d (disconnected destination source) course e = refl
keeps_none d (data0 end user) course e = refl
keeps_none d (data2 destination number end user) course e = refl
keeps_none d (acknowledge credit destination number) course e = refl
keeps_none d (error destination cause) course e = refl

then_says : (d : Direction) (r : Reach) (between old : Course) (e : Direction) → is_stopped e between ≡ is_stopped e old →
    is_stopped e (reached d r between) ≡ (stops_by d r e || is_stopped e old)
then_says d r between old e same = reached_says d r between e ∙ ap (λ (b : Bool). stops_by d r e || b) same

-- ---- by the way that the unit takes

abbrev IsSaid : Direction → State → Outcome → Type 0
IsSaid d s o = (e : Direction) → is_stopped e o.state.course ≡ (stops_by d o.told.reach e || is_stopped e s.course)

to_none : (d : Direction) (f : Finding) (s : State) → IsSaid d s (none_told d f s)
to_none d f s e = reached_says d (reach_of (class_for d s.course) f) s.course e

to_unnamed : (d : Direction) (v : Value) (s : State) → IsSaid d s (unnamed_told d v s)
to_unnamed d v s e =
    let c = course_after_none d v s.course in
    then_says d (reach_of (class_for d c) (unnamed d s.course v)) c s.course e (keeps_none d v s.course e)

to_one : (d : Direction) (p : ℕ) (c : Connection) (v : Value) (s : State) → IsSaid d s (one_told d p c v s)
to_one d p c v s e =
    let f = found_on d s c v in
    grind (arith, then_says, keeps)

at_one : (d : Direction) (v : Value) (s : State) (p : ℕ) (c : Option Connection) → IsSaid d s (at_found d v s p c)
at_one d v s p None e = to_unnamed d v s e
at_one d v s p (Some c) e = to_one d p c v s e

at_any : (d : Direction) (v : Value) (s : State) (p : Option ℕ) → IsSaid d s (at_place d v s p)
at_any d v s None e = to_unnamed d v s e
at_any d v s (Some p) e = at_one d v s p (slice_get s.connections p) e

asking : (d : Direction) (f : Finding) (c : Connect) (s : State) → IsSaid d s (asks_by d f c s)
asking d Kept c s e = refl
asking d (Broke rule) c s e = to_none d (Broke rule) s e
asking d Outside c s e = to_none d Outside s e
asking d TooMany c s e = to_none d TooMany s e
asking d NotJudged c s e = to_none d NotJudged s e

asks : (d : Direction) (v : Value) (s : State) → IsSaid d s (asks_of d v s)
asks d (request c) s e = asking d (first_failed (request_tests s c)) c s e
asks d (confirm destination c) s e = to_none d NotJudged s e
asks d (disconnect destination source reason user) s e = to_none d NotJudged s e
asks d (disconnected destination source) s e = to_none d NotJudged s e
asks d (data0 end user) s e = to_none d NotJudged s e
asks d (data2 destination number end user) s e = to_none d NotJudged s e
asks d (acknowledge credit destination number) s e = to_none d NotJudged s e
asks d (error destination cause) s e = to_none d NotJudged s e

by_route : (d : Direction) (v : Value) (s : State) (r : Route) → IsSaid d s (routed d v s r)
by_route d v s Asks e = asks d v s e
by_route d v s (Named reference) e = at_any d v s (position (is_named d reference) s.connections) e
by_route d v s Only e = at_any d v s (position (is_live d) s.connections) e
by_route d v s (Unnamed finding) e = to_none d finding s e

if_judged : (b : Bool) (d : Direction) (v : Value) (s : State) (r : Route) →
    IsSaid d s (if b then none_told d NotJudged s else routed d v s r)
if_judged true d v s r e = to_none d NotJudged s e
if_judged false d v s r e = by_route d v s r e

pub stops_are_said : (d : Direction) (v : Value) (s : State) (e : Direction) →
    is_stopped e (takes d v s).state.course ≡ (stops_by d (takes d v s).told.reach e || is_stopped e s.course)
stops_are_said d v s e = if_judged (is_stopped d s.course) d v s (route d s.course v) e

-- ---- a stop lasts

none_if : (b : Bool) (d : Direction) (v : Value) (s : State) (r : Route) → b ≡ true →
    (if b then none_told d NotJudged s else routed d v s r) ≡ none_told d NotJudged s
none_if true d v s r h = refl
none_if false d v s r h = cc

pub stops_last : (d : Direction) (v : Value) (s : State) → is_stopped d s.course ≡ true → takes d v s ≡ none_told d NotJudged s
stops_last d v s h = none_if (is_stopped d s.course) d v s (route d s.course v) h
