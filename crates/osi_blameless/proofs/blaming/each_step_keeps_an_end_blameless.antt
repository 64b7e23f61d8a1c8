-- The induction over steps: if each step keeps what holds of an end and a judge as long as both sides are judged and one class is not
-- selected, nobody of the end is ever to blame; or something else holds from a unit of the other side on. For the laws that no session of
-- an end is to blame, in either class.
use Rattle.osi_blameless.proofs.standing.steps_of_either_class_leave_all_standing.{none_so}
use Rattle.osi_blameless.proofs.Vocabulary.{◌≡◌, ◌∙◌, ◌⊎◌, inl, inr, refl, sym, ap, subst, ℕ, ◌^◌, ◌<◌, false, Ok, List, [], ◌∷◌, ◌++◌}
use Rattle.osi_blameless.proofs.Vocabulary.{length, Option, Some, append_assoc, append-nil, arith, slice_get, IsOctets, units_of, Value}
use Rattle.osi_blameless.proofs.Vocabulary.{Class, Local, Capture, other, Direction, Finding, is_applied, reach_of, class_for, takes}
use Rattle.osi_blameless.proofs.Vocabulary.{stops_last, Holding, Deeds, all_did, no_deeds, IsFresh, Turn, Joined, spoken, heard}
use Rattle.osi_blameless.proofs.Vocabulary.{unit_passes, units_pass, way_of, comes_to, Joint, Step, Steps, StepsAlong, TakesTurn, begin}
use Rattle.osi_blameless.proofs.Vocabulary.{begins_other, begins_own, passes_other, passes_own, turns, TurnsBad, calls_from}
use Rattle.osi_rules.specs.declared.findings.Reach.TheVariants as reach
use Rattle.osi_blameless.specs.transport.Wholes as wholes
use Rattle.osi_judge.specs.Courses.{Course as Passed}
use Rattle.osi_judge.specs.States as states
use Rattle.osi_blameless.proofs.keeping.a_break_ends_no_judging_or_all.{all_ends, mild_reach, reach_so}
use Rattle.osi_blameless.proofs.steps.all_is_judged_or_nothing.{IsOver, unread_over}
use Rattle.osi_blameless.proofs.keeping.no_unit_of_a_whole_end_is_a_break.{IsNoBreak}
use Rattle.osi_blameless.proofs.keeping.steps_are_events.{IsFollowed, step_followed}
use Rattle.osi_blameless.proofs.steps.what_passes_keeps_a_claim.{IsClaim, after_join, step_kept, units_kept}
use Rattle.osi_blameless.proofs.steps.what_the_turns_among_steps_do.{ComesByDoing, IsOfJudge, StepsDo, TurnDoes}
use Rattle.osi_blameless.proofs.breaking.an_end_beside_a_judge.{Goes, first_goes, other_begins_goes, other_goes, own_begins_goes, own_goes}
use Rattle.osi_blameless.proofs.breaking.an_end_beside_a_judge.{turn_goes}
use Rattle.osi_blameless.proofs.standing.each_step_leaves_class_0_one_connection.{Sure, sure_claim}
use Rattle.osi_blameless.proofs.standing.nobody_of_a_side_is_to_blame.{NeverToBlame, NoneIsToBlame, never_begins, never_over}
use Rattle.osi_blameless.proofs.standing.nobody_of_a_side_is_to_blame.{never_unapplied, never_unit}
use Rattle.osi_blameless.proofs.in_class_2.what_is_asked_of_what_holds_at_each_step.{ArePassed, IsPassed, IsStillJudged, IsWithout}
use Rattle.osi_blameless.proofs.in_class_2.what_is_asked_of_what_holds_at_each_step.{Keeps, after_without, going_of, own_mild, passed_then}
use Rattle.osi_blameless.proofs.in_class_2.what_is_asked_of_what_holds_at_each_step.{step_without, units_join, units_not, unread_without}

-- ---- the end of all judging

-- nothing is judged any more, and nobody of this side was ever to blame
pub record IsDone (d : Direction) (c : Passed) : Type 0 where
  pub over : IsOver c
  pub never : NeverToBlame d c

over_stays : (e : Direction) (at : ℕ) (v : Value) (c : Passed) → IsOver c → IsOver (unit_passes e at v c)
over_stays e at v c over = grind (arith, stops_last)

pub done_claim : (d : Direction) → IsClaim (IsDone d)
done_claim d = record {
  begins = λ e c h. record { over = grind arith; never = never_begins d e c h.never };
  passes = λ e at v c h. record { over = over_stays e at v c h.over; never = never_over d e at v c h.over h.never };
  bad = λ e at k c h. subst (IsDone d) (sym (unread_over e at k c h.over)) h;
}

-- a unit with which all judging ends has no effect
all_applied : (k : Option Class) (f : Finding) → reach_of k f ≡ reach.Everything → is_applied f ≡ false
all_applied k f h = grind arith

pub all_done : (d e : Direction) (at : ℕ) (v : Value) (c : Passed) → (takes (way_of e) v c.traffic).told.reach ≡ reach.Everything →
    NeverToBlame d c → IsDone d (unit_passes e at v c)
all_done d e at v c far never = record {
  over = all_ends e at v c far;
  never = never_unapplied d e at v c
      (all_applied (class_for (way_of e) c.traffic.course) (takes (way_of e) v c.traffic).told.finding (sym (reach_so e at v c).far ∙ far))
      never;
}

-- ---- a unit of the other side

-- these units of a packet have passed before it
pub record SoFar (barred : Class) (d : Direction) (at : ℕ) (front : List Value) (old : Passed) : Type 0 where
  pub passed : ArePassed barred d at front old
  pub judged : IsStillJudged barred (units_pass (other d) at front old)
  pub never : NeverToBlame d (units_pass (other d) at front old)
  pub sure : Sure (units_pass (other d) at front old)
  pub not : (units_pass (other d) at front old).traffic.course.class ≡ Some barred → ⊥

-- a packet with these units has passed
abbrev pub with_packet : (d : Direction) (at : ℕ) → List ℕ → List Value → Joint → Joint
with_packet d at octets units j = record j { judge = units_pass (other d) at units j.judge; coming = j.coming ++ octets ∷ [] }

-- What comes of it: the end takes it; or nothing is judged any more; or after its packet something else holds.
pub data Comes (barred : Class) (d : Direction) (Rest : Joint → Type 0) (at : ℕ) (v : Value) (c : Passed) (new : Joint) : Type 0 where
  is_taken : IsPassed barred d v c → IsStillJudged barred (unit_passes (other d) at v c) → Comes barred d Rest at v c new
  is_done : IsDone d (unit_passes (other d) at v c) → Comes barred d Rest at v c new
  is_rest : Rest new → Comes barred d Rest at v c new

module _ (barred : Class) (d : Direction) (local : Local) (Inv : (ℕ → Deeds) → Joint → Type 0)
    (k : Keeps barred d local Inv) (Rest : Joint → Type 0) where
  abbrev first : wholes.Whole
  first = wholes.begin (calls_from d) local

  abbrev pub Judging : (ℕ → Deeds) → Joint → Type 0
  Judging deeds j = Goes barred d local Inv k deeds j

  -- It holds from such a unit on; and each step keeps it.
  pub record RestsSo : Type 0 where
    pub unit : (deeds : ℕ → Deeds) (old : Joint) → Judging deeds old → (at : ℕ) (octets : List ℕ) (front back : List Value) (v : Value) →
        IsOctets octets → units_of octets ≡ Ok (front ++ v ∷ back) → SoFar barred d at front old.judge →
        IsFollowed d first (with_packet d at octets (front ++ v ∷ back) old) →
        Comes barred d Rest at v (units_pass (other d) at front old.judge) (with_packet d at octets (front ++ v ∷ back) old)
    pub step : (step : Step) (old new : Joint) → Steps d step old new → length old.judge.past < 2 ^ 64 → Rest old → Rest new

  module _ (so_rests : RestsSo) where
    pub data Stays (deeds : ℕ → Deeds) (j : Joint) : Type 0 where
      goes : Judging deeds j → Stays deeds j
      ended : IsDone d j.judge → Stays deeds j
      rested : Rest j → Stays deeds j

    -- ---- a packet of the other side

    module _ (deeds : ℕ → Deeds) (at : ℕ) (octets : List ℕ) (units : List Value) (old : Joint) (all : IsOctets octets)
        (read : units_of octets ≡ Ok units) (g : Judging deeds old)
        (not : (units_pass (other d) at units old.judge).traffic.course.class ≡ Some barred → ⊥) where
      abbrev After : List Value → Passed
      After front = units_pass (other d) at front old.judge

      abbrev new : Joint
      new = with_packet d at octets units old

      data Passing : Type 0 where
        all_taken : SoFar barred d at units old.judge → Passing
        then_done : IsDone d (After units) → Passing
        then_rests : Rest new → Passing

      followed : IsFollowed d first new
      followed = step_followed d first (passes_other at octets units) old new (all, read, refl) g.followed

      module _ (front back : List Value) (v : Value) (is : units ≡ front ++ v ∷ back) (so : SoFar barred d at front old.judge) where
        abbrev next : Passed
        next = unit_passes (other d) at v (After front)

        joined : After (front ++ v ∷ []) ≡ next
        joined = units_join (other d) at front (v ∷ []) old.judge

        all_join : After units ≡ units_pass (other d) at back next
        all_join = ap After is ∙ units_join (other d) at front (v ∷ back) old.judge

        next_not : next.traffic.course.class ≡ Some barred → ⊥
        next_not =
            units_not barred (other d) at back next
            (λ at_end. not (ap (λ (c : Passed). c.traffic.course.class) all_join ∙ at_end))

        then_blameless : ArePassed barred d at (front ++ v ∷ []) old.judge → NoneIsToBlame d next.sessions
        then_blameless taken =
            let parts : units ≡ (front ++ v ∷ []) ++ back = is ∙ sym (append_assoc front (v ∷ []) back) in
            subst (λ (c : Passed). NoneIsToBlame d c.sessions) joined
            (none_so k.laws d deeds old.put old.begun old.end.end (After (front ++ v ∷ [])) g.courses
            (k.leads.stands_amid deeds at octets (front ++ v ∷ []) back old new
            (subst (λ (l : List Value). Steps d (passes_other at octets l) old new) parts (all, read, refl)) taken
            (λ is. next_not (ap (λ (c : Passed). c.traffic.course.class) (sym joined) ∙ is)) g.holds))

        on : IsPassed barred d v (After front) → IsStillJudged barred next → SoFar barred d at (front ++ v ∷ []) old.judge
        on passed judged =
            let taken = passed_then barred d at front v old.judge so.passed passed in
            record {
              passed = taken;
              judged = subst (λ (c : Passed). IsStillJudged barred c) (sym joined) judged;
              never = subst (NeverToBlame d) (sym joined) (never_unit d (other d) at v (After front) so.never (then_blameless taken));
              sure = subst Sure (sym joined) (sure_claim.passes (other d) at v (After front) so.sure);
              not = λ is. next_not (ap (λ (c : Passed). c.traffic.course.class) (sym joined) ∙ is);
            }

        comes : Comes barred d Rest at v (After front) (with_packet d at octets (front ++ v ∷ back) old)
        comes =
            so_rests.unit deeds old g at octets front back v all (read ∙ ap (λ (l : List Value). Ok l) is) so
            (subst (λ (l : List Value). IsFollowed d first (with_packet d at octets l old)) is followed)

        then_rest : Comes barred d Rest at v (After front) (with_packet d at octets (front ++ v ∷ back) old) →
            (SoFar barred d at (front ++ v ∷ []) old.judge → Passing) → Passing
        then_rest (is_taken passed judged) rest = rest (on passed judged)
        then_rest (is_done s) rest =
            then_done (subst (IsDone d) (sym all_join) (units_kept (IsDone d) (done_claim d) (other d) at back next s))
        then_rest (is_rest r) rest = then_rests (subst (λ (l : List Value). Rest (with_packet d at octets l old)) (sym is) r)

      pass_on : (back front : List Value) → units ≡ front ++ back → SoFar barred d at front old.judge → Passing
      pass_on [] front is so =
          all_taken (subst (λ (l : List Value). SoFar barred d at l old.judge) (sym (is ∙ append-nil front)) so)
      pass_on (v ∷ back) front is so =
          then_rest front back v is so (comes front back v is so)
          (λ more. pass_on back (front ++ v ∷ []) (is ∙ sym (append_assoc front (v ∷ []) back)) more)

      passed : Passing
      passed =
          pass_on units [] refl (record {
            passed = tt;
            judged = g.judged;
            never = g.never;
            sure = g.sure;
            not = λ is. units_not barred (other d) at units old.judge not is;
          })

      other_by : Passing → Stays deeds new
      other_by (all_taken so) =
          goes (other_goes barred d local Inv k deeds at octets units old new
          (all, read, refl) g so.passed so.not so.judged so.never)
      other_by (then_done s) = ended s
      other_by (then_rests r) = rested r

      other_so : Stays deeds new
      other_so = other_by passed

    -- ---- a unit of the end

    own_so : (deeds : ℕ → Deeds) (at : ℕ) (v : Value) (old new : Joint) → Steps d (passes_own at v) old new → Judging deeds old →
        (old.judge.traffic.course.class ≡ Some barred → ⊥) → (new.judge.traffic.course.class ≡ Some barred → ⊥) → Stays deeds new
    own_so deeds at v old new step g was_not not =
        by (mild_reach d at v old.judge (takes (way_of d) v old.judge.traffic).told.finding refl none)
      where
        none : IsNoBreak (takes (way_of d) v old.judge.traffic).told.finding
        none = own_mild d local at v old new step g.followed (going_of barred old.judge g.judged)

        by : ((takes (way_of d) v old.judge.traffic).told.reach ≡ reach.Nothing)
            ⊎ ((takes (way_of d) v old.judge.traffic).told.reach ≡ reach.Everything) → Stays deeds new
        by (inl far) = goes (own_goes barred d local Inv k deeds at v old new step g was_not not none far)
        by (inr far) = ended (subst (λ (j : Joint). IsDone d j.judge) (sym step.2.2) (all_done d d at v old.judge far g.never))

    -- ---- each step

    few_so : (deeds : ℕ → Deeds) (old : Joint) → Judging deeds old → IsWithout barred old.judge → (i : ℕ) (j : Joined) →
        slice_get old.judge.sessions.live i ≡ Some j → length (heard (spoken (other d) j)) < 2 ^ 64
    few_so deeds old g within i j here = let most = g.few i j here in let few = within.few in omega (arith, most, few)

    turn_so : (turn : Turn) (old new : Joint) (t : TakesTurn turn old new) (deeds : ℕ → Deeds)
        (does : TurnDoes (calls_from d) deeds turn old new t) → Judging deeds old → IsWithout barred old.judge →
        Stays (all_did deeds does.on.more) new
    turn_so turn old new t deeds does g within = goes (turn_goes barred d local Inv k turn old new t deeds does g within.not)

    -- what passes
    judge_so : (step : Step) → IsOfJudge step → (old new : Joint) → Steps d step old new → IsWithout barred new.judge →
        (deeds : ℕ → Deeds) → Judging deeds old → Stays deeds new
    judge_so (turns turn) judge old new t within deeds g = absurd judge
    judge_so begins_own judge old new step within deeds g =
        let was = step_without barred d begins_own old new step within in
        goes (own_begins_goes barred d local Inv k old new step (few_so deeds old g was) deeds g)
    judge_so begins_other judge old new step within deeds g =
        goes (other_begins_goes barred d local Inv k old new step deeds g)
    judge_so (passes_own at v) judge old new step within deeds g =
        own_so deeds at v old new step g (step_without barred d (passes_own at v) old new step within).not within.not
    judge_so (passes_other at octets units) judge old new (all, read, is) within deeds g =
        subst (Stays deeds) (sym is) (other_so deeds at octets units old all read g
        (λ at_end. within.not (ap (λ (j : Joint). j.judge.traffic.course.class) is ∙ at_end)))

    -- what is over stays so
    step_stays : (step : Step) (deeds then_deeds : ℕ → Deeds) (old new : Joint) → Steps d step old new → IsWithout barred new.judge →
        (Judging deeds old → Stays then_deeds new) → Stays deeds old → Stays then_deeds new
    step_stays step deeds then_deeds old new does within on (goes g) = on g
    step_stays step deeds then_deeds old new does within on (ended s) = ended (step_kept (IsDone d) (done_claim d) d step old new does s)
    step_stays step deeds then_deeds old new does within on (rested r) =
        rested (so_rests.step step old new does (step_without barred d step old new does within).few r)

    judge_stays : (step : Step) → IsOfJudge step → (deeds : ℕ → Deeds) (old new : Joint) → Steps d step old new →
        IsWithout barred new.judge → Stays deeds old → Stays deeds new
    judge_stays step judge deeds old new does within s =
        step_stays step deeds deeds old new does within (λ g. judge_so step judge old new does within deeds g) s

    along_within : (steps : List Step) (old new : Joint) → StepsAlong d old steps new → IsWithout barred new.judge →
        IsWithout barred old.judge
    along_within [] old new is h = subst (λ (j : Joint). IsWithout barred j.judge) is h
    along_within (step ∷ steps) old new (mid, one, more) h = step_without barred d step old mid one (along_within steps mid new more h)

    abbrev pub Stood : Joint → Type 0
    Stood j = (deeds : ℕ → Deeds) × Stays deeds j

    along_so : (steps : List Step) (deeds : ℕ → Deeds) (old new : Joint) (along : StepsAlong d old steps new) →
        StepsDo d (calls_from d) deeds old steps new along → IsWithout barred new.judge → Stays deeds old → Stood new
    along_so [] deeds old new is does within s = (deeds, subst (Stays deeds) (sym is) s)
    along_so (turns turn ∷ steps) deeds old new (mid, t, more) (does, rest) within s =
        let now = along_within steps mid new more within in
        along_so steps (all_did deeds does.on.more) mid new more rest within
        (step_stays (turns turn) deeds (all_did deeds does.on.more) old mid t now
        (λ g. turn_so turn old mid t deeds does g (subst (IsWithout barred) t.course now)) s)
    along_so (begins_own ∷ steps) deeds old new (mid, one, more) does within s =
        along_so steps deeds mid new more does within
        (judge_stays begins_own tt deeds old mid one (along_within steps mid new more within) s)
    along_so (passes_own at v ∷ steps) deeds old new (mid, one, more) does within s =
        along_so steps deeds mid new more does within
        (judge_stays (passes_own at v) tt deeds old mid one (along_within steps mid new more within) s)
    along_so (begins_other ∷ steps) deeds old new (mid, one, more) does within s =
        along_so steps deeds mid new more does within
        (judge_stays begins_other tt deeds old mid one (along_within steps mid new more within) s)
    along_so (passes_other at octets units ∷ steps) deeds old new (mid, one, more) does within s =
        along_so steps deeds mid new more does within
        (judge_stays (passes_other at octets units) tt deeds old mid one (along_within steps mid new more within) s)

    -- ---- the capture

    bad_within : (capture : Capture) (c : Passed) → TurnsBad d capture c → IsWithout barred (comes_to capture).course → IsWithout barred c
    bad_within capture c t h =
        let join = ap (λ (x : Capture). comes_to x) t.parts ∙ after_join t.front t.back states.begin in
        unread_without barred (other d) t.at t.cause c (subst (IsWithout barred) t.unreadable
        (after_without barred t.back (comes_to t.front) (subst (λ (s : states.State). IsWithout barred s.course) join h)))

    -- after its steps, before what the other side sends and nobody can read
    pub at_last : (h : Holding) (capture : Capture) → IsFresh (calls_from d) local h → (comes : ComesByDoing d (calls_from d) capture h) →
        IsWithout barred (comes_to capture).course → IsWithout barred comes.last.judge × Stood comes.last
    at_last h capture fresh comes within = (
      last,
      along_so comes.steps (λ r. no_deeds) (begin h) comes.last comes.along comes.does last
          (goes (first_goes barred d local Inv k h fresh)),
    )
      where
        from : ((comes_to capture).course ≡ comes.last.judge) ⊎ TurnsBad d capture comes.last.judge → IsWithout barred comes.last.judge
        from (inl is) = subst (IsWithout barred) is within
        from (inr bad) = bad_within capture comes.last.judge bad within

        last : IsWithout barred comes.last.judge
        last = from comes.all
