-- At each step of an end and of a judge it holds that in class 0 one connection was opened, and each other one was refused; and that left
-- knows a class only if it is selected.
-- For the session of the connection of an end in class 0.
use Rattle.osi_blameless.proofs.Vocabulary.{Bool, false, if◌then◌else◌, is_some, Option, Some, subst, sym, true, ℕ, ◌∙◌, ◌≡◌, Value, Class}
use Rattle.osi_blameless.proofs.Vocabulary.{Two, Zero, reach_of, asks_of, at_place, class_for, fresh, is_stopped, none_told, Outcome}
use Rattle.osi_blameless.proofs.Vocabulary.{Traffic as State, takes, Way, Finding, Direction, marked, marks_of, moved, unread_mark}
use Rattle.osi_blameless.proofs.Vocabulary.{unread_moment, way_of, Cause, fresh_apart, no_item, passes_apart, AreJudged, still_judged}
use Rattle.osi_blameless.proofs.Vocabulary.{reached_class, zero_stays, NamesApart as AreApart, packet, passes, Passing, rubbish, unit}
use Rattle.osi_blameless.proofs.Vocabulary.{lasts_passing, arith, Course}
use Rattle.osi_rules.specs.declared.directions.Direction.TheVariants.{Left, Right}
use Rattle.osi_rules.specs.Traffic as traffic
use Rattle.osi_blameless.proofs.steps.what_passes_keeps_a_claim.{IsClaim}
use Rattle.osi_blameless.proofs.standing.a_dt_of_class_0_leaves_all_standing.{IsZero}
use Rattle.osi_blameless.proofs.standing.class_0_has_one_connection.{narrow_only}
use Rattle.osi_blameless.proofs.transport.requests.one_request_waits.{NarrowIf, after_seen, reached_seen, still_narrow}
use Rattle.osi_blameless.proofs.shown.connections_have_the_same_places.{marked_traffic, unit_knows}

-- ---- a unit leaves what left knows of the class

abbrev SeenSame : State → Outcome → Type 0
SeenSame s o = o.state.course.class_seen ≡ s.course.class_seen

module _ (d : Way) (v : Value) (s : State) where
  none_seen : (f : Finding) → SeenSame s (none_told d f s)
  none_seen f = reached_seen d (reach_of (class_for d s.course) f) s.course

  place_seen : (o : Option ℕ) → SeenSame s (at_place d v s o)
  place_seen o = grind (arith, reached_seen, after_seen)

asks_seen : (d : Way) (v : Value) (s : State) → SeenSame s (asks_of d v s)
asks_seen d v s = grind (arith, none_seen)

takes_seen : (d : Way) (v : Value) (s : State) → SeenSame s (takes d v s)
takes_seen d v s = grind (arith, none_seen, asks_seen, place_seen)

-- ---- what holds whatever passes

-- names are apart, all is judged unless a connection has lost its judgement, and in class 0 there is one connection
pub record IsSure (s : State) : Type 0 where
  pub apart : AreApart s.connections
  pub judged : AreJudged s
  pub narrow : NarrowIf s
  pub agrees : (k : Class) → s.course.class_seen ≡ Some k → s.course.class ≡ Some k

-- a class stays selected
pub class_stays : (k : Class) (p : Passing) (s : State) → s.course.class ≡ Some k → (passes p s).course.class ≡ Some k
class_stays Zero p s h = zero_stays p s h
class_stays Two p s h = (lasts_passing p s).two h

still_agrees : (k : Class) (p : Passing) (s : State) → (s.course.class_seen ≡ Some k → s.course.class ≡ Some k) →
    (passes p s).course.class_seen ≡ Some k → (passes p s).course.class ≡ Some k
still_agrees k (packet Left) s a h = h
still_agrees k (packet Right) s a h = a h
still_agrees k (unit d v) s a h = class_stays k (unit d v) s (a (sym (takes_seen d v s) ∙ h))
still_agrees k (rubbish d) s a h = grind (arith, reached_class, reached_seen)

pub still_sure : (p : Passing) (s : State) → IsSure s → IsSure (passes p s)
still_sure p s h = record {
  apart = passes_apart p s h.apart;
  judged = still_judged p s h.judged;
  narrow = still_narrow p s h.apart h.narrow;
  agrees = λ k seen. still_agrees k p s (h.agrees k) seen;
}

pub fresh_sure : IsSure fresh
fresh_sure = grind (arith, fresh_apart, no_item)

-- ---- at a judge

abbrev pub Sure : Course → Type 0
Sure c = IsSure c.traffic

bad_by : (b : Bool) (d : Direction) (at : ℕ) (cause : Cause) (c : Course) → Sure c →
    Sure (if b then c else marked (unread_mark d at cause) (traffic.refused_reach (way_of d) c.traffic)
    (moved (unread_moment d at cause c.sessions) (record c { traffic = traffic.refused (way_of d) c.traffic })))
bad_by true d at cause c h = h
bad_by false d at cause c h =
    subst IsSure (sym (marked_traffic (unread_mark d at cause) (traffic.refused_reach (way_of d) c.traffic) _))
    (still_sure (rubbish (way_of d)) c.traffic h)

pub sure_claim : IsClaim Sure
sure_claim = record {
  begins = λ d c h. still_sure (packet (way_of d)) c.traffic h;
  passes = λ d at v c h. subst IsSure (sym (unit_knows d at v c)) (still_sure (unit (way_of d) v) c.traffic h);
  bad = λ d at cause c h. bad_by (is_some (marks_of d c).halted) d at cause c h;
}

-- ---- in class 0

-- a side that knows class 0 and is judged has one connection
pub is_zero : (d : Direction) (s : State) → IsSure s → s.course.loose ≡ false → is_stopped (way_of d) s.course ≡ false →
    class_for (way_of d) s.course ≡ Some Zero → IsZero d s
is_zero d s h firm goes zero = grind (arith, narrow_only)
