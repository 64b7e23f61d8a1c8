-- The calling side knows of class 0 only once it is selected, whatever passes.
-- For the units of both sides that are no breaks.
use Rattle.osi_blameless.proofs.Vocabulary.{◌≡◌, ℕ, Bool, List, Option, Some, Value, Zero, Local, Direction}
use Rattle.osi_blameless.proofs.Vocabulary.{Connection, Rules, Way, Reach, Route, Outcome, Traffic, at_found, routed, takes, unnamed_told}
use Rattle.osi_blameless.proofs.Vocabulary.{Passing, passes, unit, Event, HappenAlong, Happens, Whole}
use Rattle.osi_blameless.proofs.Vocabulary.{zero_stays, arith, Joint, way_of}
use Rattle.osi_rules.specs.Traffic.{reached}
use Rattle.osi_blameless.specs.transport.Wholes.{begin}
use Rattle.osi_blameless.proofs.keeping.steps_are_events.{whole_of, IsFollowed}
use Rattle.osi_blameless.proofs.transport.what_each_thing_keeps_all_of_them_keep.{along_keeps, judge_keeps}

-- ---- a unit leaves what the calling side knows

reached_seen : (d : Way) (r : Reach) (c : Rules) → (reached d r c).class_seen ≡ c.class_seen
reached_seen d r c = grind arith

abbrev Keeps : Traffic → Outcome → Type 0
Keeps s o = o.state.course.class_seen ≡ s.course.class_seen

to_unnamed : (d : Way) (v : Value) (s : Traffic) → Keeps s (unnamed_told d v s)
to_unnamed d v s = grind (arith, reached_seen)

to_one : (d : Way) (v : Value) (s : Traffic) (p : ℕ) (o : Option Connection) → Keeps s (at_found d v s p o)
to_one d v s p o = grind (arith, to_unnamed, reached_seen)

by_route : (d : Way) (v : Value) (s : Traffic) (r : Route) → Keeps s (routed d v s r)
by_route d v s r = search (arith, reached_seen, to_unnamed, to_one)

takes_seen : (d : Way) (v : Value) (s : Traffic) → Keeps s (takes d v s)
takes_seen d v s = grind (arith, by_route)

-- ---- whatever passes

-- if the calling side knows of class 0, it is selected
abbrev pub IsKnownOnce : Traffic → Type 0
IsKnownOnce s = s.course.class_seen ≡ Some Zero → s.course.class ≡ Some Zero

known_once : (p : Passing) (s : Traffic) → IsKnownOnce s → IsKnownOnce (passes p s)
known_once p s h = grind (arith, zero_stays, takes_seen, reached_seen)

pub unit_known_once : (d : Way) (v : Value) (s : Traffic) → IsKnownOnce s → IsKnownOnce (takes d v s).state
unit_known_once d v s h = known_once (unit d v) s h

all_known_once : (d : Way) (events : List Event) (w new : Whole) → HappenAlong d w events new → IsKnownOnce w.judge → IsKnownOnce new.judge
all_known_once d = along_keeps (Happens d) (λ w. IsKnownOnce w.judge) (judge_keeps IsKnownOnce known_once d)

-- at every step of an end and a judge
pub joint_known_once : (d : Direction) (is_caller : Bool) (local : Local) (j : Joint) → IsFollowed d (begin is_caller local) j →
    IsKnownOnce j.judge.traffic
joint_known_once d is_caller local j f =
    all_known_once (way_of d) f.events (begin is_caller local) (whole_of f) f.along (λ k. absurd (cc k))
