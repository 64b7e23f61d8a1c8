-- What holds of an end and a judge as long as both sides are judged and one class is not selected: each step keeps it.
-- For the laws that no session of an end is to blame.
use Rattle.osi_blameless.proofs.standing.steps_of_either_class_leave_all_standing.{none_so}
use Rattle.osi_blameless.proofs.Vocabulary.{arith, ◌≡◌, sym, subst, ℕ, ◌^◌, ◌<◌, List, length, Some, slice_get, AllByRecursion, Value}
use Rattle.osi_blameless.proofs.Vocabulary.{Class, Local, other, Direction, Deeds, all_did, no_deeds, Turn, IsSane, turn_sane}
use Rattle.osi_blameless.proofs.Vocabulary.{fresh_sane, fresh_course, CanBeWritten, End, Holding, IsFresh, Joined, spoken, units_pass}
use Rattle.osi_blameless.proofs.Vocabulary.{heard, Joint, Step, Steps, TakesTurn, begin, begins_other, begins_own, passes_other, passes_own}
use Rattle.osi_blameless.proofs.Vocabulary.{takes, turns, way_of, calls_from}
use Rattle.osi_rules.specs.declared.findings.Reach.TheVariants as reach
use Rattle.osi_blameless.specs.transport.Wholes as wholes
use Rattle.osi_blameless.specs.ends.Courses.{Course}
use Rattle.osi_judge.specs.Courses.{Course as Passed}
use Rattle.osi_blameless.proofs.keeping.no_unit_of_a_whole_end_is_a_break.{IsNoBreak}
use Rattle.osi_blameless.proofs.small_facts_that_many_lemmas_use.{can_more}
use Rattle.osi_blameless.proofs.keeping.steps_are_events.{IsFollowed, begin_followed, step_followed}
use Rattle.osi_blameless.proofs.steps.what_passes_keeps_a_claim.{step_kept}
use Rattle.osi_blameless.proofs.steps.what_the_turns_among_steps_do.{TurnDoes}
use Rattle.osi_blameless.proofs.breaking.a_judge_counts_what_it_has_joined_of_a_tsdu.{Counted, counted_claim, fresh_counted}
use Rattle.osi_blameless.proofs.standing.each_step_leaves_class_0_one_connection.{Sure, fresh_sure, sure_claim}
use Rattle.osi_blameless.proofs.breaking.no_more_tsdus_than_moments_have_passed.{AreFew, few_claim}
use Rattle.osi_blameless.proofs.standing.nobody_of_a_side_is_to_blame.{NeverToBlame, NoneIsToBlame, never_begins, never_first, never_unit}
use Rattle.osi_blameless.proofs.in_class_2.what_is_asked_of_what_holds_at_each_step.{ArePassed, HaveCourses, IsStillJudged, Keeps}
use Rattle.osi_blameless.proofs.in_class_2.what_is_asked_of_what_holds_at_each_step.{begins_judged, first_judged, lasts_so, nothing_judged}
use Rattle.osi_blameless.proofs.in_class_2.what_is_asked_of_what_holds_at_each_step.{own_is}

module _ (barred : Class) (d : Direction) (local : Local) (Inv : (ℕ → Deeds) → Joint → Type 0)
    (k : Keeps barred d local Inv) where
  pub record Goes (deeds : ℕ → Deeds) (j : Joint) : Type 0 where
    pub judged : IsStillJudged barred j.judge
    pub never : NeverToBlame d j.judge
    pub holds : Inv deeds j
    pub courses : HaveCourses d deeds j
    pub followed : IsFollowed d (wholes.begin (calls_from d) local) j
    pub few : AreFew (other d) j.judge
    pub sure : Sure j.judge
    pub counted : Counted j.judge
    pub sane : IsSane j.end
    pub can : AllByRecursion CanBeWritten j.put

  pub first_goes : (h : Holding) → IsFresh (calls_from d) local h → Goes (λ r. no_deeds) (begin h)
  first_goes h fresh = record {
    judged = first_judged barred;
    never = never_first d;
    holds = k.begins h fresh;
    courses = λ r. subst (λ (e : End). Course (calls_from d) r no_deeds e) (sym fresh.end) (fresh_course (calls_from d) local r);
    followed = begin_followed d (calls_from d) local h fresh;
    few = λ i j here. absurd (cc here);
    sure = fresh_sure;
    counted = fresh_counted;
    sane = fresh_sane (calls_from d) local h fresh;
    can = tt;
  }

  still_goes : (deeds then_deeds : ℕ → Deeds) (step : Step) (old new : Joint) → Steps d step old new → Goes deeds old →
      IsStillJudged barred new.judge → NeverToBlame d new.judge → Inv then_deeds new → HaveCourses d then_deeds new →
      IsSane new.end → AllByRecursion CanBeWritten new.put → Goes then_deeds new
  still_goes deeds then_deeds step old new does g judged never holds courses sane can = record {
    judged = judged;
    never = never;
    holds = holds;
    courses = courses;
    followed = step_followed d (wholes.begin (calls_from d) local) step old new does g.followed;
    few = step_kept (AreFew (other d)) (few_claim (other d)) d step old new does g.few;
    sure = step_kept Sure sure_claim d step old new does g.sure;
    counted = step_kept Counted counted_claim d step old new does g.counted;
    sane = sane;
    can = can;
  }

  pub turn_goes : (turn : Turn) (old new : Joint) (t : TakesTurn turn old new) (deeds : ℕ → Deeds)
      (does : TurnDoes (calls_from d) deeds turn old new t) → Goes deeds old → (old.judge.traffic.course.class ≡ Some barred → ⊥) →
      Goes (all_did deeds does.on.more) new
  turn_goes turn old new t deeds does g not =
      still_goes deeds (all_did deeds does.on.more) (turns turn) old new t g
      (subst (λ (c : Passed). IsStillJudged barred c) (sym t.course) g.judged) (subst (NeverToBlame d) (sym t.course) g.never)
      (k.leads.turn turn old new t deeds does g.followed
      (step_followed d (wholes.begin (calls_from d) local) (turns turn) old new t g.followed)
      (lasts_so barred old.judge g.judged not) g.holds)
      does.on.course (turn_sane (calls_from d) deeds turn old.end new.end does.on t.takes g.sane)
      (grind (arith, can_more))

  pub own_begins_goes : (old new : Joint) → Steps d begins_own old new →
      ((i : ℕ) (j : Joined) → slice_get old.judge.sessions.live i ≡ Some j → length (heard (spoken (other d) j)) < 2 ^ 64) →
      (deeds : ℕ → Deeds) → Goes deeds old → Goes deeds new
  own_begins_goes old new step few deeds g =
      still_goes deeds deeds begins_own old new step g
      (subst (λ (j : Joint). IsStillJudged barred j.judge) (sym step.2) (begins_judged barred d old.judge g.judged))
      (subst (λ (j : Joint). NeverToBlame d j.judge) (sym step.2) (never_begins d d old.judge g.never))
      (k.leads.own_begins deeds old new step g.courses few g.holds) (subst (HaveCourses d deeds) (sym step.2) g.courses)
      (subst (λ (j : Joint). IsSane j.end) (sym step.2) g.sane)
      (subst (λ (j : Joint). AllByRecursion CanBeWritten j.put) (sym step.2) g.can)

  pub other_begins_goes : (old new : Joint) → Steps d begins_other old new → (deeds : ℕ → Deeds) → Goes deeds old → Goes deeds new
  other_begins_goes old new step deeds g =
      still_goes deeds deeds begins_other old new step g
      (subst (λ (j : Joint). IsStillJudged barred j.judge) (sym step) (begins_judged barred (other d) old.judge g.judged))
      (subst (λ (j : Joint). NeverToBlame d j.judge) (sym step) (never_begins d (other d) old.judge g.never))
      (k.leads.other_begins deeds old new step g.holds) (subst (HaveCourses d deeds) (sym step) g.courses)
      (subst (λ (j : Joint). IsSane j.end) (sym step) g.sane)
      (subst (λ (j : Joint). AllByRecursion CanBeWritten j.put) (sym step) g.can)

  -- a unit of the end with which no judging ends
  module _ (deeds : ℕ → Deeds) (at : ℕ) (v : Value) (old new : Joint) (step : Steps d (passes_own at v) old new) (g : Goes deeds old)
      (was_not : old.judge.traffic.course.class ≡ Some barred → ⊥) (not : new.judge.traffic.course.class ≡ Some barred → ⊥)
      (none : IsNoBreak (takes (way_of d) v old.judge.traffic).told.finding)
      (far : (takes (way_of d) v old.judge.traffic).told.reach ≡ reach.Nothing) where
    own_courses : HaveCourses d deeds new
    own_courses = subst (HaveCourses d deeds) (sym step.2.2) g.courses

    own_holds : Inv deeds new
    own_holds =
        k.leads.own_passes deeds at v old new step (own_is barred d v old.judge g.judged g.sure was_not none far)
        (lasts_so barred old.judge g.judged was_not) not g.holds

    pub own_goes : Goes deeds new
    own_goes =
        still_goes deeds deeds (passes_own at v) old new step g
        (subst (λ (j : Joint). IsStillJudged barred j.judge) (sym step.2.2) (nothing_judged barred d at v old.judge far g.judged))
        (subst (λ (j : Joint). NeverToBlame d j.judge) (sym step.2.2) (never_unit d d at v old.judge g.never
        (subst (λ (j : Joint). NoneIsToBlame d j.judge.sessions) step.2.2
        (none_so k.laws d deeds new.put new.begun new.end.end new.judge own_courses
        (k.leads.stands deeds new own_holds)))))
        own_holds own_courses (subst (λ (j : Joint). IsSane j.end) (sym step.2.2) g.sane)
        (subst (AllByRecursion CanBeWritten) step.2.0 g.can).1

  pub other_goes : (deeds : ℕ → Deeds) (at : ℕ) (octets : List ℕ) (units : List Value) (old new : Joint) →
      Steps d (passes_other at octets units) old new → Goes deeds old → ArePassed barred d at units old.judge →
      ((units_pass (other d) at units old.judge).traffic.course.class ≡ Some barred → ⊥) →
      IsStillJudged barred (units_pass (other d) at units old.judge) → NeverToBlame d (units_pass (other d) at units old.judge) →
      Goes deeds new
  other_goes deeds at octets units old new step g taken not judged never =
      still_goes deeds deeds (passes_other at octets units) old new step g
      (subst (λ (j : Joint). IsStillJudged barred j.judge) (sym step.2) judged)
      (subst (λ (j : Joint). NeverToBlame d j.judge) (sym step.2) never)
      (k.leads.other_passes deeds at octets units old new step taken
      (subst (λ (j : Joint). j.judge.traffic.course.class ≡ Some barred → ⊥) (sym step.2) not) g.holds)
      (subst (HaveCourses d deeds) (sym step.2) g.courses)
      (subst (λ (j : Joint). IsSane j.end) (sym step.2) g.sane)
      (subst (λ (j : Joint). AllByRecursion CanBeWritten j.put) (sym step.2) g.can)
