-- What is known at the judge stays known as more passes: that class 2 holds; and what is judged was judged before.
-- For the law on requests.
use Rattle.osi_blameless.proofs.transport.Vocabulary.{arith, asks_of, Bool, class_for, confirm}
use Rattle.osi_blameless.proofs.transport.Vocabulary.{Connect}
use Rattle.osi_blameless.proofs.transport.Vocabulary.{Connection, Course, course_after, course_after_none, course_begins, Direction}
use Rattle.osi_blameless.proofs.transport.Vocabulary.{disconnect, Event}
use Rattle.osi_blameless.proofs.transport.Vocabulary.{false, Finding, found_on, Happens, if◌then◌else◌, is_applied, none_told, noted}
use Rattle.osi_blameless.proofs.transport.Vocabulary.{NotJudged}
use Rattle.osi_blameless.proofs.transport.Vocabulary.{Outcome, passes, Passing, Reach, reach_of, reached, request}
use Rattle.osi_blameless.proofs.transport.Vocabulary.{Route, routed}
use Rattle.osi_blameless.proofs.transport.Vocabulary.{Some, Traffic as State, true, Two, unnamed_told, Value}
use Rattle.osi_blameless.proofs.transport.Vocabulary.{Whole, ℕ, ◌≡◌}
use Rattle.osi_blameless.proofs.transport.small_facts_that_many_lemmas_use.{or_left}
use Rattle.osi_blameless.proofs.transport.names.a_reference_names_one_connection.{applied_found}
use Rattle.osi_blameless.proofs.transport.what_each_thing_keeps_all_of_them_keep.{judge_keeps}

pub record Lasts (a b : Course) : Type 0 where
  pub firm : b.loose ≡ false → a.loose ≡ false
  pub left : b.left_stopped ≡ false → a.left_stopped ≡ false
  pub right : b.right_stopped ≡ false → a.right_stopped ≡ false
  pub strays : b.disconnects.strays ≡ false → a.disconnects.strays ≡ false
  pub two : a.class ≡ Some Two → b.class ≡ Some Two
  pub seen : a.class ≡ Some Two → a.class_seen ≡ Some Two → b.class_seen ≡ Some Two
  pub left_fine : b.left_erred ≡ false → a.left_erred ≡ false
  pub right_fine : b.right_erred ≡ false → a.right_erred ≡ false

lasts_same : (c : Course) → Lasts c c
lasts_same c = grind arith

lasts_then : (a b c : Course) → Lasts a b → Lasts b c → Lasts a c
lasts_then a b c x y = search (arith)

lasts_reached : (d : Direction) (r : Reach) (c : Course) → Lasts c (reached d r c)
lasts_reached d r c = search (arith, lasts_same)

lasts_told : (d : Direction) (f : Finding) (r : Reach) (c : Course) → Lasts c (noted d f (reached d r c))
lasts_told d f r c = grind (arith, lasts_then, lasts_reached d r c)

lasts_none : (d : Direction) (v : Value) (c : Course) → Lasts c (course_after_none d v c)
lasts_none d v o = search (arith, lasts_same)

-- ---- a CC that is right selects class 2 again

lasts_confirmed : (d : Direction) (s : State) (c : Connection) (destination : ℕ) (x : Connect) (applied : Bool) →
    is_applied (found_on d s c (confirm destination x)) ≡ applied →
    Lasts s.course (course_after d c (confirm destination x) applied s.course)
lasts_confirmed d s c destination x applied h = search (arith, lasts_same, applied_found)

lasts_after : (d : Direction) (s : State) (c : Connection) (v : Value) →
    Lasts s.course (course_after d c v (is_applied (found_on d s c v)) s.course)
lasts_after d s c (confirm destination x) = grind (arith, lasts_confirmed)
lasts_after d s c (disconnect destination source reason user) = search (arith, or_left)
lasts_after d s c _ = lasts_same s.course

-- ---- by the way that a unit takes

abbrev After : State → Outcome → Type 0
After s o = Lasts s.course o.state.course

to_none : (d : Direction) (f : Finding) (s : State) → After s (none_told d f s)
to_none d f s = lasts_told d f (reach_of (class_for d s.course) f) s.course

to_unnamed : (d : Direction) (v : Value) (s : State) → After s (unnamed_told d v s)
to_unnamed d v s = search (arith, lasts_then, lasts_told, lasts_none d v s.course)

-- after a unit for a connection
pub one_lasts : (d : Direction) (s : State) (c : Connection) (v : Value) →
    (let f = found_on d s c v in
    Lasts s.course (noted d f (reached d (reach_of (class_for d s.course) f) (course_after d c v (is_applied f) s.course))))
one_lasts d s c v = search (arith, lasts_then, lasts_told, lasts_after d s c v)

asks : (d : Direction) (v : Value) (s : State) → After s (asks_of d v s)
asks d (request x) s = grind (arith, lasts_same, to_none)
asks d _ s = to_none d NotJudged s

if_judged : (stopped : Bool) (d : Direction) (v : Value) (s : State) (r : Route) →
    After s (if stopped then none_told d NotJudged s else routed d v s r)
if_judged true d v s r = to_none d NotJudged s
if_judged false d v s r = grind (arith, asks, to_unnamed, one_lasts, to_none)

begun : (d : Direction) (c : Course) → Lasts c (course_begins d c)
begun d c = grind (arith, lasts_same)

pub lasts_passing : (p : Passing) (s : State) → Lasts s.course (passes p s).course
lasts_passing p s = grind (arith, begun, if_judged, lasts_reached)

pub lasts_happening : (d : Direction) (event : Event) (w new : Whole) → Happens d event w new → Lasts w.judge.course new.judge.course
lasts_happening d event w new h =
    judge_keeps (λ s. Lasts w.judge.course s.course)
    (λ p s so_far. lasts_then w.judge.course s.course (passes p s).course so_far (lasts_passing p s))
    d event w new h (lasts_same w.judge.course)

-- ---- both sides are judged

-- a connection may have lost its judgement
pub record IsCalm (c : Course) : Type 0 where
  pub left : c.left_stopped ≡ false
  pub right : c.right_stopped ≡ false

pub calm_before : (a b : Course) → Lasts a b → IsCalm b → IsCalm a
calm_before a b l h = record { left = l.left h.left; right = l.right h.right }

-- whatever is noted of a unit
pub calm_noted : (d : Direction) (f : Finding) (c : Course) → IsCalm (noted d f c) → IsCalm c
calm_noted d f c h = record { left = h.left; right = h.right }
