-- As long as the other side is judged, an end is: what is right stops nothing, and what stops the end stops both sides.
-- For the laws on whole ends.
use Rattle.osi_blameless.proofs.transport.Vocabulary.{arith, asks_by, at_place, Class, class_for, Connect, Direction, false, Finding}
use Rattle.osi_blameless.proofs.transport.Vocabulary.{is_stopped, Kept}
use Rattle.osi_blameless.proofs.transport.Vocabulary.{Left, none_told, NotJudged, Option, other, Outcome, Reach, reach_of, refl, Right}
use Rattle.osi_blameless.proofs.transport.Vocabulary.{Route, routed}
use Rattle.osi_blameless.proofs.transport.Vocabulary.{Some, stops_are_said, takes, TooMany, Traffic as State, true, Value, Zero, ℕ, ◌≡◌}
use Rattle.osi_blameless.proofs.transport.Vocabulary.{◌⊎◌}
use Rattle.osi_rules.specs.declared.findings.Reach.TheVariants as reach
use Rattle.osi_blameless.proofs.transport.small_facts_that_many_lemmas_use.{differ}

-- ---- how far a unit reaches is by what is found of it, and by the class that its side knows

abbrev pub IsBy : Direction → State → Outcome → Type 0
IsBy d s o = o.told.reach ≡ reach_of (class_for d s.course) o.told.finding

to_none : (d : Direction) (f : Finding) (s : State) → IsBy d s (none_told d f s)
to_none d f s = refl

at_any : (d : Direction) (v : Value) (s : State) (p : Option ℕ) → IsBy d s (at_place d v s p)
at_any d v s p = grind arith

asking : (d : Direction) (f : Finding) (c : Connect) (s : State) → IsBy d s (asks_by d f c s)
asking d f c s = grind (arith, to_none)

by_route : (d : Direction) (v : Value) (s : State) (r : Route) → IsBy d s (routed d v s r)
by_route d v s r = grind (arith, asking, to_none, at_any)

pub side_zero : (k : Option Class) (f : Finding) → reach_of k f ≡ reach.Side → k ≡ Some Zero
side_zero k f e = grind arith

-- right, or not judged, or there are too many connections
abbrev pub IsMild : Finding → Type 0
IsMild f = (f ≡ Kept) ⊎ ((f ≡ TooMany) ⊎ (f ≡ NotJudged))

all_or_none : (k : Option Class) (f : Finding) → IsMild f → (reach_of k f ≡ reach.Nothing) ⊎ (reach_of k f ≡ reach.Everything)
all_or_none k f h = grind arith

same_reach : (r q : Reach) → r ≡ q → (q ≡ reach.Nothing) ⊎ (q ≡ reach.Everything) → (r ≡ reach.Nothing) ⊎ (r ≡ reach.Everything)
same_reach r q e k = grind arith

-- ---- a unit of the end

own_reach : (d : Direction) (v : Value) (s : State) → IsMild (takes d v s).told.finding →
    ((takes d v s).told.reach ≡ reach.Nothing) ⊎ ((takes d v s).told.reach ≡ reach.Everything)
own_reach d v s mild = grind (arith, same_reach, all_or_none, to_none, by_route)

-- what it does to the judging of the other side
other_by : (d : Direction) (v : Value) (s : State) →
    ((takes d v s).told.reach ≡ reach.Nothing) ⊎ ((takes d v s).told.reach ≡ reach.Everything) →
    is_stopped d (takes d v s).state.course ≡ false → is_stopped (other d) (takes d v s).state.course ≡ is_stopped (other d) s.course
other_by d v s h still = grind (arith, stops_are_said d v s d, stops_are_said d v s (other d))

own_by : (d : Direction) (v : Value) (s : State) →
    ((takes d v s).told.reach ≡ reach.Nothing) ⊎ ((takes d v s).told.reach ≡ reach.Everything) →
    is_stopped d s.course ≡ false → is_stopped (other d) (takes d v s).state.course ≡ false →
    is_stopped d (takes d v s).state.course ≡ false
own_by d v s h was others = grind (arith, differ, stops_are_said d v s d, stops_are_said d v s (other d))

pub own_judged : (d : Direction) (v : Value) (s : State) → IsMild (takes d v s).told.finding → is_stopped d s.course ≡ false →
    is_stopped (other d) (takes d v s).state.course ≡ false → is_stopped d (takes d v s).state.course ≡ false
own_judged d v s mild was others = own_by d v s (own_reach d v s mild) was others

-- if it stops not the end, it stops not the other side
pub other_kept : (d : Direction) (v : Value) (s : State) → IsMild (takes d v s).told.finding →
    is_stopped d (takes d v s).state.course ≡ false → is_stopped (other d) (takes d v s).state.course ≡ is_stopped (other d) s.course
other_kept d v s mild still = other_by d v s (own_reach d v s mild) still

-- ---- what the other side sends

judged_by : (d : Direction) (r : Reach) (v : Value) (s : State) → (takes (other d) v s).told.reach ≡ r → is_stopped d s.course ≡ false →
    is_stopped (other d) (takes (other d) v s).state.course ≡ false → is_stopped d (takes (other d) v s).state.course ≡ false
judged_by Left reach.Everything v s e was others = grind (arith, differ, stops_are_said)
judged_by Left _ v s e was others = grind (arith, stops_are_said Right v s Left)
judged_by Right reach.Everything v s e was others = grind (arith, differ, stops_are_said)
judged_by Right _ v s e was others = grind (arith, stops_are_said Left v s Right)

pub other_judged : (d : Direction) (v : Value) (s : State) → is_stopped d s.course ≡ false →
    is_stopped (other d) (takes (other d) v s).state.course ≡ false → is_stopped d (takes (other d) v s).state.course ≡ false
other_judged d v s was others = judged_by d (takes (other d) v s).told.reach v s refl was others

-- only what the calling side sends in class 0 stops it alone
alone_by : (r : Reach) (v : Value) (s : State) → (takes Left v s).told.reach ≡ r → s.course.left_stopped ≡ false →
    (takes Left v s).state.course.left_stopped ≡ true → (takes Left v s).state.course.right_stopped ≡ false →
    s.course.class_seen ≡ Some Zero
alone_by r v s e was left right = search (arith, side_zero, differ, stops_are_said)

pub alone_zero : (v : Value) (s : State) → s.course.left_stopped ≡ false → (takes Left v s).state.course.left_stopped ≡ true →
    (takes Left v s).state.course.right_stopped ≡ false → s.course.class_seen ≡ Some Zero
alone_zero v s was left right = alone_by (takes Left v s).told.reach v s refl was left right
