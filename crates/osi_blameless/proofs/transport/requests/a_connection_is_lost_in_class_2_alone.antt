-- A connection loses its judgement only in class 2, and left knows the class only once right has selected it.
-- For the law on a whole called end: in class 0, and while no class is selected, each connection is judged.
use Rattle.osi_blameless.proofs.transport.Vocabulary.{arith, false, None, Option, Some, true, ℕ, ◌≡◌, ◌⊎◌, Value, Class, Two, is_applied}
use Rattle.osi_blameless.proofs.transport.Vocabulary.{reach_of}
use Rattle.osi_blameless.proofs.transport.Vocabulary.{asks_of, at_found, class_for, course_after, course_after_none, found_on, none_told}
use Rattle.osi_blameless.proofs.transport.Vocabulary.{Outcome, reached}
use Rattle.osi_blameless.proofs.transport.Vocabulary.{routed, Traffic as State, takes, unnamed_told, Connection, Course, Direction, Finding}
use Rattle.osi_blameless.proofs.transport.Vocabulary.{Reach, Route}
use Rattle.osi_blameless.proofs.transport.Vocabulary.{passes, Passing, noted, disconnect, refl, sym, ◌∙◌}
use Rattle.osi_rules.specs.Traffic.{unnamed}
use Rattle.osi_rules.specs.declared.findings.Reach.TheVariants as reach
use Rattle.osi_blameless.proofs.transport.requests.what_lasts_at_the_judge.{Lasts, lasts_passing}

pub record IsOfTwo (c : Course) : Type 0 where
  pub lost : c.loose ≡ true → c.class ≡ Some Two
  pub seen : c.class_seen ≡ Some Two → c.class ≡ Some Two

-- ---- how far a unit reaches

connection_by : (k : Option Class) (f : Finding) → reach_of k f ≡ reach.Connection → k ≡ Some Two
connection_by k f e = grind arith

-- what a unit changes of these
record Changes (k : Option Class) (c after : Course) : Type 0 where
  lost : after.loose ≡ true → (c.loose ≡ true) ⊎ (k ≡ Some Two)
  seen : after.class_seen ≡ c.class_seen

told_changes : (d : Direction) (k : Option Class) (f : Finding) (r : Reach) (c : Course) → (r ≡ reach.Connection → k ≡ Some Two) →
    Changes k c (noted d f (reached d r c))
told_changes d k f r c h = grind arith

changes_from : (k : Option Class) (c mid after : Course) → mid.loose ≡ c.loose → mid.class_seen ≡ c.class_seen → Changes k mid after →
    Changes k c after
changes_from k c mid after loose seen h = grind arith

none_loose : (d : Direction) (v : Value) (c : Course) → (course_after_none d v c).loose ≡ c.loose
none_loose d v c = grind arith

none_seen : (d : Direction) (v : Value) (c : Course) → (course_after_none d v c).class_seen ≡ c.class_seen
none_seen d v c = grind arith

none_class : (d : Direction) (v : Value) (c : Course) → class_for d (course_after_none d v c) ≡ class_for d c
none_class d (disconnect n source reason user) c = refl
none_class d _ c = refl

-- ---- by the way that a unit takes

abbrev Keeps : Direction → State → Outcome → Type 0
Keeps d s o = Changes (class_for d s.course) s.course o.state.course

to_none : (d : Direction) (f : Finding) (s : State) → Keeps d s (none_told d f s)
to_none d f s = search (arith, told_changes, connection_by)

to_unnamed : (d : Direction) (v : Value) (s : State) → Keeps d s (unnamed_told d v s)
to_unnamed d v s =
    let mid = course_after_none d v s.course in
    let f = unnamed d s.course v in
    let r = reach_of (class_for d mid) f in
    changes_from (class_for d s.course) s.course mid (noted d f (reached d r mid)) (none_loose d v s.course) (none_seen d v s.course)
    (told_changes d (class_for d s.course) f r mid (λ e. sym (none_class d v s.course) ∙ connection_by (class_for d mid) f e))

to_one : (d : Direction) (v : Value) (s : State) (p : ℕ) (o : Option Connection) → Keeps d s (at_found d v s p o)
to_one d v s p None = to_unnamed d v s
to_one d v s p (Some c) =
    let f = found_on d s c v in
    let mid = course_after d c v (is_applied f) s.course in
    changes_from (class_for d s.course) s.course mid (noted d f (reached d (reach_of (class_for d s.course) f) mid))
    (grind arith) (grind arith)
    (told_changes d (class_for d s.course) f (reach_of (class_for d s.course) f) mid (connection_by (class_for d s.course) f))

asks : (d : Direction) (v : Value) (s : State) → Keeps d s (asks_of d v s)
asks d v s = search (arith, to_none)

by_route : (d : Direction) (v : Value) (s : State) (r : Route) → Keeps d s (routed d v s r)
by_route d v s r = grind (arith, asks, to_unnamed, to_one, to_none)

takes_keeps : (d : Direction) (v : Value) (s : State) → Keeps d s (takes d v s)
takes_keeps d v s = grind (arith, to_none, by_route)

-- ---- whatever passes

by_changes : (d : Direction) (c after : Course) → IsOfTwo c → Lasts c after → Changes (class_for d c) c after → IsOfTwo after
by_changes d c after h l k = grind arith

pub still_two : (p : Passing) (s : State) → IsOfTwo s.course → IsOfTwo (passes p s).course
still_two p s h = search (arith, by_changes, lasts_passing, takes_keeps)

pub firm_unless_two : (c : Course) → IsOfTwo c → (c.class ≡ Some Two → ⊥) → c.loose ≡ false
firm_unless_two c h none = grind arith
