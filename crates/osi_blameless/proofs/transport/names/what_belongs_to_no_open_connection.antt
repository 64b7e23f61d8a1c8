-- A DR that refuses a CR is right, and after a DR that closed nothing no DC is blamed.
-- For the law of that name.
use Rattle.osi_blameless.proofs.transport.Vocabulary.{arith, asks_of, Bool, class_for, Connection, Course, Direction, disconnect}
use Rattle.osi_blameless.proofs.transport.Vocabulary.{disconnected, false}
use Rattle.osi_blameless.proofs.transport.Vocabulary.{Finding, found, is_named, is_silent, is_stopped, Kept, List, may_answer, None}
use Rattle.osi_blameless.proofs.transport.Vocabulary.{none_told, Outcome}
use Rattle.osi_blameless.proofs.transport.Vocabulary.{passes, Passing, position, Reach, reach_of, reached, Right, Route, routed, Some}
use Rattle.osi_blameless.proofs.transport.Vocabulary.{takes}
use Rattle.osi_blameless.proofs.transport.Vocabulary.{Traffic as State, true, Two, Value, ℕ, ◌≡◌}
use Rattle.osi_blameless.proofs.transport.small_facts_that_many_lemmas_use.{or_first}
use Rattle.osi_blameless.proofs.transport.lines.what_is_right_passes_each_test.{is_right}
use Rattle.osi_blameless.proofs.transport.names.a_right_unit_is_not_blamed.{IsNotBlamed}

-- ---- a refusal

pub refusal_right : (c : Connection) (course : Course) (in_use : Bool) (destination source reason : ℕ) (user : List ℕ) →
    is_silent c.right.phase ≡ true → found Right course in_use c (disconnect destination source reason user) ≡ Kept
refusal_right c course in_use destination source reason user h = grind (arith, is_right, or_first)

-- ---- a DC

pub dc_spared : (d : Direction) (s : State) (n source : ℕ) → class_for d s.course ≡ Some Two → may_answer d s.course.disconnects ≡ true →
    IsNotBlamed (takes d (disconnected n source) s).told.finding
dc_spared d s n source two h = grind arith

-- ---- it lasts

pub reached_strays : (d : Direction) (r : Reach) (c : Course) → c.disconnects.strays ≡ true → (reached d r c).disconnects.strays ≡ true
reached_strays d r c h = grind arith

abbrev pub Strays : Outcome → Type 0
Strays o = o.state.course.disconnects.strays ≡ true

to_none : (d : Direction) (f : Finding) (s : State) → s.course.disconnects.strays ≡ true → Strays (none_told d f s)
to_none d f s h = reached_strays d (reach_of (class_for d s.course) f) s.course h

asks : (d : Direction) (v : Value) (s : State) → s.course.disconnects.strays ≡ true → Strays (asks_of d v s)
asks d v s h = grind (arith, to_none)

by_route : (d : Direction) (v : Value) (s : State) (r : Route) → s.course.disconnects.strays ≡ true → Strays (routed d v s r)
by_route d v s r h = search (arith, asks, to_none)

pub strays_last : (p : Passing) (s : State) → s.course.disconnects.strays ≡ true → (passes p s).course.disconnects.strays ≡ true
strays_last p s h = grind (arith, to_none, by_route, reached_strays)

-- ---- a DR for no connection

pub dr_strays : (d : Direction) (s : State) (n source reason : ℕ) (user : List ℕ) → is_stopped d s.course ≡ false →
    class_for d s.course ≡ Some Two → position (is_named d n) s.connections ≡ None →
    (takes d (disconnect n source reason user) s).state.course.disconnects.strays ≡ true
dr_strays d s n source reason user judged two none = grind arith
