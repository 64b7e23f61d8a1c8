-- A judge finds of no unit of an end that it breaks a rule of transport, whatever the other side sends.
-- For the law that the transport of an end is blamed nowhere.
use Rattle.osi_blameless.proofs.Vocabulary.{◌≡◌, ◌∙◌, ℕ, false, List, [], ◌∷◌, None, Some, inl, inr, ◌⊎◌, arith, refl, sym, subst}
use Rattle.osi_blameless.proofs.Vocabulary.{calls_from, Value, Local, Capture, other, Direction, Reach, Option, Class, class_for}
use Rattle.osi_blameless.proofs.Vocabulary.{is_stopped, takes, IsOfTwo, firm_unless_two, still_two, Two, Zero, stops_last, Holding, IsFresh}
use Rattle.osi_blameless.proofs.Vocabulary.{Cause, Course, marks_of, packet_begins, unit_passes, units_pass, unread, way_of, comes_to}
use Rattle.osi_blameless.proofs.Vocabulary.{Joint, Step, Steps, begin, begins_other, begins_own, passes_other, passes_own, turns}
use Rattle.osi_blameless.proofs.Vocabulary.{ComesBySteps, LaterAlong, LaterSteps, spoilt, units_in}
use Rattle.osi_rules.specs.declared.findings.Reach.TheVariants as reach
use Rattle.osi_rules.specs.Sides as sides
use Rattle.osi_blameless.proofs.steps.all_is_judged_or_nothing.{IsJudged}
use Rattle.osi_blameless.specs.transport.Naming.{unit as unit_passing}
use Rattle.osi_blameless.specs.transport.Wholes as wholes
use Rattle.osi_judge.specs.Courses.{fresh}
use Rattle.osi_blameless.specs.Spoilt.{GoesOn}
use Rattle.osi_blameless.proofs.keeping.a_break_ends_no_judging_or_all.{IsGoing, IsLeft, all_ends, begins_going, left_claim, known_too}
use Rattle.osi_blameless.proofs.keeping.a_break_ends_no_judging_or_all.{mild_reach}
use Rattle.osi_blameless.proofs.keeping.a_break_ends_no_judging_or_all.{nothing_goes, part_goes, side_known, other_unbroken, own_unbroken}
use Rattle.osi_blameless.proofs.keeping.a_break_ends_no_judging_or_all.{unread_unbroken}
use Rattle.osi_blameless.proofs.keeping.an_end_that_is_judged_alone_stays_so.{along_too, own_alone}
use Rattle.osi_blameless.proofs.keeping.in_class_0_one_side_alone_is_judged.{AfterUnread, IsAlone, all_over, alone_begins, alone_own}
use Rattle.osi_blameless.proofs.keeping.in_class_0_one_side_alone_is_judged.{unit_alone}
use Rattle.osi_blameless.proofs.keeping.in_class_0_one_side_alone_is_judged.{unread_alone}
use Rattle.osi_blameless.proofs.keeping.later_steps_are_events.{later_followed, spoilt_followed}
use Rattle.osi_blameless.proofs.keeping.steps_are_events.{whole_of, IsFollowed, begin_followed}
use Rattle.osi_blameless.proofs.keeping.no_unit_of_a_whole_end_is_a_break.{IsNoBreak, is_fair}
use Rattle.osi_blameless.proofs.keeping.class_0_is_known_once_it_is_selected.{IsKnownOnce, joint_known_once, unit_known_once}
use Rattle.osi_blameless.proofs.shown.connections_have_the_same_places.{unit_knows}
use Rattle.osi_blameless.proofs.transport.what_each_thing_keeps_all_of_them_keep.{along_keeps}

other_goes : (d : Direction) (c : Course) → IsGoing c → is_stopped (sides.other (way_of d)) c.traffic.course ≡ false
other_goes d c j = grind arith

begins_marks : (d e : Direction) (c : Course) → (marks_of d (packet_begins e c)).broke ≡ (marks_of d c).broke
begins_marks d e c = grind arith

begins_two : (e : Direction) (c : Course) → IsOfTwo c.traffic.course → IsOfTwo (packet_begins e c).traffic.course
begins_two e c h = grind (arith, still_two)

zero_not : Some Zero ≡ Some Two → ⊥
zero_not e = cc e

judged_of : (c : Course) → IsGoing c → c.traffic.course.loose ≡ false → IsJudged c
judged_of c j firm = record { left = j.left; right = j.right; firm = firm; left_goes = j.left_goes; right_goes = j.right_goes }

-- a connection is lost in class 2 alone
firm_in_zero : (c : Course) → IsOfTwo c.traffic.course → c.traffic.course.class ≡ Some Zero → c.traffic.course.loose ≡ false
firm_in_zero c h zero = firm_unless_two c.traffic.course h (λ e. zero_not (sym zero ∙ e))

module _ (d : Direction) where
  -- both sides are judged, and this side has broken no rule
  pub record IsWhole (c : Course) : Type 0 where
    pub going : IsGoing c
    pub two : IsOfTwo c.traffic.course
    pub unbroken : (marks_of d c).broke ≡ None

  -- or nothing is judged any more; or in class 0 this side alone
  pub data IsBlamedNowhere (c : Course) : Type 0 where
    is_whole : IsWhole c → IsBlamedNowhere c
    is_left : IsLeft d c → IsBlamedNowhere c
    is_alone : IsAlone d c → (marks_of d c).broke ≡ None → IsBlamedNowhere c

  -- what stays, whatever passes
  begins_so : (e : Direction) (c : Course) → IsBlamedNowhere c → IsBlamedNowhere (packet_begins e c)
  begins_so e c h = grind (arith, begins_going, begins_two, begins_marks, left_claim, alone_begins)

  unit_two : (e : Direction) (at : ℕ) (v : Value) (c : Course) → IsOfTwo c.traffic.course → IsOfTwo (unit_passes e at v c).traffic.course
  unit_two e at v c h = grind (arith, unit_knows e at v c, still_two (unit_passing (way_of e) v) c.traffic h)

  other_by : (at : ℕ) (v : Value) (c : Course) → IsKnownOnce c.traffic → IsWhole c → (r : Reach) →
      (takes (way_of (other d)) v c.traffic).told.reach ≡ r → IsBlamedNowhere (unit_passes (other d) at v c)
  other_by at v c once w reach.Nothing is = search (arith, nothing_goes, unit_two, other_unbroken)
  other_by at v c once w reach.Connection is = search (arith, part_goes, unit_two, other_unbroken)
  other_by at v c once w reach.Side is =
      is_alone (unit_alone d at v c (judged_of c w.going (firm_in_zero c w.two (side_known (other d) at v c is once))) once is)
      (other_unbroken d at v c ∙ w.unbroken)
  other_by at v c once w reach.Everything is = search (arith, all_ends, other_unbroken)

  others_pass : (at : ℕ) (units : List Value) (c : Course) → IsKnownOnce c.traffic → IsBlamedNowhere c →
      IsBlamedNowhere (units_pass (other d) at units c)
  others_pass at [] c once h = h
  others_pass at (v ∷ units) c once h =
      others_pass at units (unit_passes (other d) at v c)
      (subst IsKnownOnce (sym (unit_knows (other d) at v c)) (unit_known_once (way_of (other d)) v c.traffic once)) (by h)
    where
      by : IsBlamedNowhere c → IsBlamedNowhere (unit_passes (other d) at v c)
      by (is_whole w) = other_by at v c once w (takes (way_of (other d)) v c.traffic).told.reach refl
      by (is_left l) = is_left ((left_claim d).passes (other d) at v c l)
      by (is_alone a none) = is_alone (grind (arith, stops_last)) (other_unbroken d at v c ∙ none)

  module _ (local : Local) where
    abbrev first : wholes.Whole
    first = wholes.begin (calls_from d) local

    -- a unit of the end is no break: it is fair
    own_none : (at : ℕ) (v : Value) (old new : Joint) → Steps d (passes_own at v) old new → IsFollowed d first old → IsWhole old.judge →
        IsNoBreak (takes (way_of d) v old.judge.traffic).told.finding
    own_none at v old new (read, octets, (put, begun, is)) f w =
        is_fair d local f.events (whole_of f) v new.put f.along begun put (other_goes d old.judge w.going)

    own_passes_so : (at : ℕ) (v : Value) (old new : Joint) → Steps d (passes_own at v) old new → IsFollowed d first old →
        IsBlamedNowhere old.judge → IsBlamedNowhere (unit_passes d at v old.judge)
    own_passes_so at v old new step f (is_left l) = is_left ((left_claim d).passes d at v old.judge l)
    own_passes_so at v old new step f (is_alone a none) =
        search (arith, alone_own, own_unbroken, own_alone d local at v old new step f a)
    own_passes_so at v old new step f (is_whole w) = by (mild_reach d at v old.judge _ refl none)
      where
        none : IsNoBreak (takes (way_of d) v old.judge.traffic).told.finding
        none = own_none at v old new step f w

        unbroken : (marks_of d (unit_passes d at v old.judge)).broke ≡ None
        unbroken = own_unbroken d at v old.judge none ∙ w.unbroken

        by : ((takes (way_of d) v old.judge.traffic).told.reach ≡ reach.Nothing)
            ⊎ ((takes (way_of d) v old.judge.traffic).told.reach ≡ reach.Everything) → IsBlamedNowhere (unit_passes d at v old.judge)
        by (inl is) = is_whole (record {
          going = nothing_goes d at v old.judge is w.going;
          two = unit_two d at v old.judge w.two;
          unbroken = unbroken;
        })
        by (inr is) = is_left (record { over = all_ends d at v old.judge is; unbroken = unbroken })

    later_so : (step : Step) (old new : Joint) → LaterSteps d step old new → IsFollowed d first old → IsBlamedNowhere old.judge →
        IsBlamedNowhere new.judge
    later_so (turns turn) old new t f h = subst IsBlamedNowhere (sym t.course) h
    later_so begins_own old new step f h = grind (arith, begins_so)
    later_so (passes_own at v) old new step f h = grind (arith, own_passes_so at v old new step f h)
    later_so begins_other old new step f h = grind (arith, begins_so)
    later_so (passes_other at packet units) old new step f h =
        subst (λ (j : Joint). IsBlamedNowhere j.judge) (sym step.2)
        (others_pass at units old.judge (joint_known_once d (calls_from d) local old f) h)

    -- the end and the judge, and whether this side is blamed
    record Stood (j : Joint) : Type 0 where
      followed : IsFollowed d first j
      nowhere : IsBlamedNowhere j.judge

    stood_along : (steps : List Step) (old new : Joint) → LaterAlong d old steps new → Stood old → Stood new
    stood_along = along_keeps (LaterSteps d) Stood (λ step old new does h. record {
      followed = later_followed d first step old new does h.followed;
      nowhere = later_so step old new does h.followed h.nowhere;
    })

    -- what can't be read
    module _ (at : ℕ) (cause : Cause) (c : Course) (once : IsKnownOnce c.traffic) where
      abbrev bad : Course
      bad = unread (other d) at cause c

      unread_whole : IsWhole c → (k : Option Class) → class_for (way_of (other d)) c.traffic.course ≡ k → AfterUnread d bad
      unread_whole w k is = grind (arith, all_over, unread_alone, judged_of, firm_in_zero, known_too)

      unread_so : IsBlamedNowhere c → IsBlamedNowhere bad
      unread_so h = grind (arith, unread_unbroken, unread_whole, left_claim)

    spoilt_so : (at : ℕ) (cause : Cause) (packets : List (List ℕ)) → units_in packets ≡ [] → (j : Joint) → Stood j →
        Stood (spoilt d at cause packets j)
    spoilt_so at cause packets none j h = search (arith, spoilt_followed, unread_so, joint_known_once)

  -- ---- in the end

  nothing : (e : Direction) → (marks_of e fresh).broke ≡ None
  nothing e = grind arith

  never_blamed : (local : Local) (h : Holding) (capture : Capture) → IsFresh (calls_from d) local h →
      ComesBySteps d capture h → IsBlamedNowhere (comes_to capture).course
  never_blamed local h capture anew comes = by comes.on
    where
      last : Stood local comes.last
      last = stood_along local comes.steps (begin h) comes.last
          (along_too d comes.steps (begin h) comes.last comes.along) (record {
            followed = begin_followed d (calls_from d) local h anew;
            nowhere = grind (arith, nothing);
          })

      by : ((comes_to capture).course ≡ comes.last.judge) ⊎ GoesOn d capture comes.last → IsBlamedNowhere (comes_to capture).course
      by (inl is) = subst IsBlamedNowhere (sym is) last.nowhere
      by (inr g) = subst IsBlamedNowhere (sym g.all)
          (stood_along local g.steps (spoilt d g.at g.cause g.packets comes.last) g.end g.along
          (spoilt_so local g.at g.cause g.packets g.none comes.last last)).nowhere

  unbroken_by : (c : Course) → IsBlamedNowhere c → (marks_of d c).broke ≡ None
  unbroken_by c h = grind arith

  pub always_unbroken : (local : Local) (h : Holding) (capture : Capture) → IsFresh (calls_from d) local h →
      ComesBySteps d capture h → (marks_of d (comes_to capture).course).broke ≡ None
  always_unbroken local h capture anew comes = search (arith, unbroken_by, never_blamed)
