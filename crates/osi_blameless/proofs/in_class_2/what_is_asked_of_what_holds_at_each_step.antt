-- What is asked of what holds of an end and a judge at each step, by which nobody of the end is to blame as long as one class is not
-- selected: class 2, or class 0. And what units are while so much is judged. For the laws that no session of an end is to blame.
use Rattle.osi_blameless.proofs.Vocabulary.{◌≡◌, ◌≢◌, ◌∙◌, ◌⊎◌, inl, inr, refl, sym, ap, ℕ, ◌^◌, ◌<◌, ◌≤◌, Bool, false}
use Rattle.osi_blameless.proofs.Vocabulary.{if◌then◌else◌, List, [], ◌∷◌, ◌++◌, length, Some, is_some, arith, slice_get, length-append}
use Rattle.osi_blameless.proofs.Vocabulary.{Value, Class, Two, Zero, Local, Capture, other, Direction, TooMany, class_for, is_stopped}
use Rattle.osi_blameless.proofs.Vocabulary.{takes, packet, unit, IsFirm, IsOngoing, packet_begins, Holding, Deeds, no_deeds, then_did}
use Rattle.osi_blameless.proofs.Vocabulary.{IsFresh, Turn, Cause, Joined, spoken, marked, marks_of, moved, unit_passes, units_pass, unread}
use Rattle.osi_blameless.proofs.Vocabulary.{unread_mark, unread_moment, way_of, heard, after, Joint, Step, Steps, TakesTurn, begin}
use Rattle.osi_blameless.proofs.Vocabulary.{begins_other, begins_own, passes_other, passes_own, calls_from}
use Rattle.osi_rules.specs.Traffic.{State as Traffic}
use Rattle.osi_rules.specs.Traffic as traffic
use Rattle.osi_rules.specs.declared.findings.Reach.TheVariants as reach
use Rattle.osi_blameless.specs.transport.Wholes as wholes
use Rattle.osi_blameless.specs.ends.Courses.{Course}
use Rattle.osi_judge.specs.Courses.{Course as Passed, fresh}
use Rattle.osi_judge.specs.States as states
use Rattle.osi_blameless.proofs.keeping.steps_are_events.{whole_of, IsFollowed}
use Rattle.osi_blameless.proofs.keeping.no_unit_of_a_whole_end_is_a_break.{IsNoBreak, is_fair}
use Rattle.osi_blameless.proofs.keeping.a_break_ends_no_judging_or_all.{IsGoing, begins_going, nothing_ends, nothing_goes}
use Rattle.osi_blameless.proofs.steps.all_is_judged_or_nothing.{IsJudged}
use Rattle.osi_blameless.proofs.steps.what_passes_keeps_a_claim.{IsClaim, after_kept, step_kept, units_kept}
use Rattle.osi_blameless.proofs.steps.what_the_turns_among_steps_do.{TurnDoes}
use Rattle.osi_blameless.proofs.standing.a_unit_after_a_dr_is_for_a_closing_connection.{IsAfterDr}
use Rattle.osi_blameless.proofs.standing.nobody_of_a_side_is_to_blame.{NoneIsToBlame, moment, unit_past}
use Rattle.osi_blameless.proofs.shown.connections_have_the_same_places.{marked_traffic, unit_knows}
use Rattle.osi_blameless.proofs.standing.each_step_leaves_class_0_one_connection.{Sure, class_stays}
use Rattle.osi_blameless.proofs.standing.steps_leave_all_standing.{IsProper}
use Rattle.osi_blameless.proofs.standing.steps_of_either_class_leave_all_standing.{IsRight, IsTolerable, StandsOrSilent}
use Rattle.osi_blameless.proofs.shown.a_session_that_is_shown_is_not_to_blame.{SessionLaws}

-- ---- what is asked of what holds at each step

-- the courses of all connections of an end
abbrev pub HaveCourses : Direction → (ℕ → Deeds) → Joint → Type 0
HaveCourses d deeds j = (r : ℕ) → Course (calls_from d) r (deeds r) j.end.end

-- Both sides are judged; and each connection too, if class 2 is not selected: only in class 2 a connection may lose its judgement.
abbrev pub IsStillJudged : (barred : Class) → Passed → Type 0
IsStillJudged Two c = IsJudged c
IsStillJudged Zero c = IsGoing c

-- the same, as the rules of transport know it
abbrev pub Lasts : (barred : Class) → Passed → Type 0
Lasts Two c = IsFirm c.traffic.course × (c.traffic.course.class ≡ Some Two → ⊥)
Lasts Zero c = IsOngoing c.traffic.course

-- a unit of the end
abbrev pub IsOwn : (barred : Class) → Direction → Value → Passed → Type 0
IsOwn Two d v c = IsRight d v c × Sure c
IsOwn Zero d v c = IsProper d v c

-- A unit of the other side, while class 2 is not selected: it breaks no rule, or its taker passes over that, or it comes after a DR; and it
-- is not one connection too many.
pub record IsTakenEarly (d : Direction) (v : Value) (c : Passed) : Type 0 where
  pub taken : IsTolerable (other d) v c ⊎ IsAfterDr (other d) v c
  pub firm : IsFirm c.traffic.course
  pub not : c.traffic.course.class ≡ Some Two → ⊥
  pub sure : Sure c
  pub few : (takes (way_of (other d)) v c.traffic).told.finding ≢ TooMany

-- The same, while class 0 is not selected: all judging does not end with the unit. If a connection loses its judgement with it, nobody of
-- the end is to blame then.
pub record IsTakenOn (d : Direction) (v : Value) (c : Passed) : Type 0 where
  pub goes : is_stopped (way_of (other d)) c.traffic.course ≡ false
  pub lasts : IsOngoing c.traffic.course
  pub two : class_for (way_of (other d)) c.traffic.course ≡ Some Zero → ⊥
  pub far : (takes (way_of (other d)) v c.traffic).told.reach ≡ reach.Everything → ⊥
  pub loses : (takes (way_of (other d)) v c.traffic).told.reach ≡ reach.Connection → NoneIsToBlame d c.sessions

abbrev pub IsPassed : (barred : Class) → Direction → Value → Passed → Type 0
IsPassed Two d v c = IsTakenEarly d v c
IsPassed Zero d v c = IsTakenOn d v c

-- each of these, as it passes
abbrev pub ArePassed : (barred : Class) (d : Direction) (at : ℕ) → List Value → Passed → Type 0
ArePassed barred d at [] c = Unit {0}
ArePassed barred d at (v ∷ vs) c = IsPassed barred d v c × ArePassed barred d at vs (unit_passes (other d) at v c)

-- From what holds before each step follows what holds after it, as long as so much is judged and this class is not selected. Then all
-- connections of the end stand or it has said nothing, also after each unit of a packet of the other side.
pub record Leads (barred : Class) (d : Direction) (local : Local) (Inv Then : (ℕ → Deeds) → Joint → Type 0) : Type 1 where
  pub own_begins : (deeds : ℕ → Deeds) (old new : Joint) → Steps d begins_own old new → HaveCourses d deeds old →
      ((i : ℕ) (j : Joined) → slice_get old.judge.sessions.live i ≡ Some j → length (heard (spoken (other d) j)) < 2 ^ 64) →
      Inv deeds old → Then deeds new
  pub other_begins : (deeds : ℕ → Deeds) (old new : Joint) → Steps d begins_other old new → Inv deeds old → Then deeds new
  pub own_passes : (deeds : ℕ → Deeds) (at : ℕ) (v : Value) (old new : Joint) → Steps d (passes_own at v) old new →
      IsOwn barred d v old.judge → Lasts barred old.judge → (new.judge.traffic.course.class ≡ Some barred → ⊥) → Inv deeds old →
      Then deeds new
  pub other_passes : (deeds : ℕ → Deeds) (at : ℕ) (octets : List ℕ) (units : List Value) (old new : Joint) →
      Steps d (passes_other at octets units) old new → ArePassed barred d at units old.judge →
      (new.judge.traffic.course.class ≡ Some barred → ⊥) → Inv deeds old → Then deeds new
  pub turn : (turn : Turn) (old new : Joint) (t : TakesTurn turn old new) (deeds : ℕ → Deeds)
      (does : TurnDoes (calls_from d) deeds turn old new t) → IsFollowed d (wholes.begin (calls_from d) local) old →
      IsFollowed d (wholes.begin (calls_from d) local) new → Lasts barred old.judge → Inv deeds old →
      Then (λ r. then_did (deeds r) (does.on.more r)) new
  pub stands : (deeds : ℕ → Deeds) (j : Joint) → Inv deeds j → StandsOrSilent d deeds j.put j.begun j.judge
  pub stands_amid : (deeds : ℕ → Deeds) (at : ℕ) (octets : List ℕ) (front back : List Value) (old new : Joint) →
      Steps d (passes_other at octets (front ++ back)) old new → ArePassed barred d at front old.judge →
      ((units_pass (other d) at front old.judge).traffic.course.class ≡ Some barred → ⊥) → Inv deeds old →
      StandsOrSilent d deeds old.put old.begun (units_pass (other d) at front old.judge)

-- It holds at the beginning, and each step keeps it.
pub record Keeps (barred : Class) (d : Direction) (local : Local) (Inv : (ℕ → Deeds) → Joint → Type 0) : Type 1 where
  pub begins : (h : Holding) → IsFresh (calls_from d) local h → Inv (λ r. no_deeds) (begin h)
  pub leads : Leads barred d local Inv Inv
  pub laws : SessionLaws

-- and more follows from that
pub leads_more : (barred : Class) (d : Direction) (local : Local) (Inv Some_of Then : (ℕ → Deeds) → Joint → Type 0) →
    ((deeds : ℕ → Deeds) (j : Joint) → Some_of deeds j → Then deeds j) → Leads barred d local Inv Some_of → Leads barred d local Inv Then
leads_more barred d local Inv Some_of Then f k = record {
  own_begins = λ deeds old new step courses few h. f deeds new (k.own_begins deeds old new step courses few h);
  other_begins = λ deeds old new step h. f deeds new (k.other_begins deeds old new step h);
  own_passes = λ deeds at v old new step own lasts not h. f deeds new (k.own_passes deeds at v old new step own lasts not h);
  other_passes = λ deeds at octets units old new step passed not h.
      f deeds new (k.other_passes deeds at octets units old new step passed not h);
  turn = λ turn old new t deeds does g h lasts i. f _ new (k.turn turn old new t deeds does g h lasts i);
  stands = k.stands;
  stands_amid = k.stands_amid;
}

-- one of two holds
either : {A B C : Type 0} → (A → C) → (B → C) → A ⊎ B → C
either f g (inl a) = f a
either f g (inr b) = g b

either_stands : {A B : Type 0} {C : Type 1} → (A → C) → (B → C) → A ⊎ B → C
either_stands f g (inl a) = f a
either_stands f g (inr b) = g b

pub leads_either : (barred : Class) (d : Direction) (local : Local) (A B Then : (ℕ → Deeds) → Joint → Type 0) →
    Leads barred d local A Then → Leads barred d local B Then → Leads barred d local (λ deeds j. A deeds j ⊎ B deeds j) Then
leads_either barred d local A B Then a b = record {
  own_begins = λ deeds old new step courses few h.
      either (a.own_begins deeds old new step courses few) (b.own_begins deeds old new step courses few) h;
  other_begins = λ deeds old new step h. either (a.other_begins deeds old new step) (b.other_begins deeds old new step) h;
  own_passes = λ deeds at v old new step own lasts not h.
      either (a.own_passes deeds at v old new step own lasts not) (b.own_passes deeds at v old new step own lasts not) h;
  other_passes = λ deeds at octets units old new step passed not h.
      either (a.other_passes deeds at octets units old new step passed not)
      (b.other_passes deeds at octets units old new step passed not) h;
  turn = λ turn old new t deeds does f g lasts h.
      either (a.turn turn old new t deeds does f g lasts) (b.turn turn old new t deeds does f g lasts) h;
  stands = λ deeds j h. either_stands (a.stands deeds j) (b.stands deeds j) h;
  stands_amid = λ deeds at octets front back old new step passed not h.
      either_stands (a.stands_amid deeds at octets front back old new step passed not)
      (b.stands_amid deeds at octets front back old new step passed not) h;
}

-- no unit comes after a DR while class 2 is not selected
pub early : (d : Direction) (v : Value) (c : Passed) → IsPassed Two d v c → IsTolerable (other d) v c
early d v c h = grind arith

-- ---- what stays, whatever passes

-- a class stays selected
class_bad : (k : Class) (b : Bool) (d : Direction) (at : ℕ) (cause : Cause) (c : Passed) → c.traffic.course.class ≡ Some k →
    (if b then c else marked (unread_mark d at cause) (traffic.refused_reach (way_of d) c.traffic)
    (moved (unread_moment d at cause c.sessions) (record c { traffic = traffic.refused (way_of d) c.traffic }))).traffic.course.class
    ≡ Some k
class_bad k b d at cause c h = grind (arith, marked_traffic, class_stays)

pub class_claim : (k : Class) → IsClaim (λ c. c.traffic.course.class ≡ Some k)
class_claim k = record {
  begins = λ d c h. class_stays k (packet (way_of d)) c.traffic h;
  passes = λ d at v c h.
      ap (λ (s : Traffic). s.course.class) (unit_knows d at v c) ∙ class_stays k (unit (way_of d) v) c.traffic h;
  bad = λ d at cause c h. class_bad k (is_some (marks_of d c).halted) d at cause c h;
}

-- no moment is lost
pub long_claim : (n : ℕ) → IsClaim (λ c. n ≤ length c.past)
long_claim n = grind (arith, unit_past, length-append, moment)

-- this class is not selected, and fewer units have passed than a judge counts
pub record IsWithout (barred : Class) (c : Passed) : Type 0 where
  pub not : c.traffic.course.class ≡ Some barred → ⊥
  pub few : length c.past < 2 ^ 64

module _ (barred : Class) where
  abbrev IsSelected : Passed → Type 0
  IsSelected c = c.traffic.course.class ≡ Some barred

  without_before : (c new : Passed) → (IsSelected c → IsSelected new) → length c.past ≤ length new.past → IsWithout barred new →
      IsWithout barred c
  without_before c new stays longer h = grind arith

  pub step_without : (d : Direction) (step : Step) (old new : Joint) → Steps d step old new → IsWithout barred new.judge →
      IsWithout barred old.judge
  step_without d step old new does h =
      without_before old.judge new.judge (step_kept IsSelected (class_claim barred) d step old new does)
      (step_kept (λ c. length old.judge.past ≤ length c.past) (long_claim (length old.judge.past)) d step old new does (omega arith)) h

  pub after_without : (capture : Capture) (s : states.State) → IsWithout barred (after capture s).course → IsWithout barred s.course
  after_without capture s h =
      without_before s.course (after capture s).course (after_kept IsSelected (class_claim barred) capture s)
      (after_kept (λ c. length s.course.past ≤ length c.past) (long_claim (length s.course.past)) capture s (omega arith)) h

  pub unread_without : (d : Direction) (at : ℕ) (cause : Cause) (c : Passed) → IsWithout barred (unread d at cause c) → IsWithout barred c
  unread_without d at cause c h = grind (arith, without_before, class_claim barred, long_claim (length c.past))

  pub units_not : (d : Direction) (at : ℕ) (vs : List Value) (c : Passed) → (IsSelected (units_pass d at vs c) → ⊥) → IsSelected c → ⊥
  units_not d at vs c not is = not (units_kept IsSelected (class_claim barred) d at vs c is)

-- ---- units

pub units_join : (d : Direction) (at : ℕ) (xs ys : List Value) (c : Passed) →
    units_pass d at (xs ++ ys) c ≡ units_pass d at ys (units_pass d at xs c)
units_join d at [] ys c = refl
units_join d at (x ∷ xs) ys c = units_join d at xs ys (unit_passes d at x c)

pub passed_then : (barred : Class) (d : Direction) (at : ℕ) (xs : List Value) (v : Value) (c : Passed) → ArePassed barred d at xs c →
    IsPassed barred d v (units_pass (other d) at xs c) → ArePassed barred d at (xs ++ v ∷ []) c
passed_then barred d at [] v c h k = (k, tt)
passed_then barred d at (x ∷ xs) v c h k = (h.0, passed_then barred d at xs v (unit_passes (other d) at x c) h.1 k)

-- ---- while so much is judged

pub firm_so : (c : Passed) → IsJudged c → IsFirm c.traffic.course
firm_so c j = record { firm = j.firm; left = j.left; right = j.right }

pub goes_so : (e : Direction) (c : Passed) → IsJudged c → is_stopped (way_of e) c.traffic.course ≡ false
goes_so e c j = grind arith

pub side_goes : (e : Direction) (c : Passed) → IsGoing c → is_stopped (way_of e) c.traffic.course ≡ false
side_goes e c j = grind arith

pub going_of : (barred : Class) (c : Passed) → IsStillJudged barred c → IsGoing c
going_of Two c j = record { left = j.left; right = j.right; left_goes = j.left_goes; right_goes = j.right_goes }
going_of Zero c j = j

pub lasts_so : (barred : Class) (c : Passed) → IsStillJudged barred c → (c.traffic.course.class ≡ Some barred → ⊥) → Lasts barred c
lasts_so Two c j not = (firm_so c j, not)
lasts_so Zero c j not = record { sure = record { left = j.left; right = j.right }; two = not }

pub first_judged : (barred : Class) → IsStillJudged barred fresh
first_judged Two = record { left = refl; right = refl; firm = refl; left_goes = refl; right_goes = refl }
first_judged Zero = record { left = refl; right = refl; left_goes = refl; right_goes = refl }

pub begins_judged : (barred : Class) (e : Direction) (c : Passed) → IsStillJudged barred c → IsStillJudged barred (packet_begins e c)
begins_judged Two e c j = grind arith
begins_judged Zero e c j = begins_going e c j

pub nothing_judged : (barred : Class) (e : Direction) (at : ℕ) (v : Value) (c : Passed) →
    (takes (way_of e) v c.traffic).told.reach ≡ reach.Nothing → IsStillJudged barred c → IsStillJudged barred (unit_passes e at v c)
nothing_judged Two e at v c far j = nothing_ends e at v c far j
nothing_judged Zero e at v c far j = nothing_goes e at v c far j

pub knows_zero : (e : Direction) (c : Passed) → Sure c → class_for (way_of e) c.traffic.course ≡ Some Zero →
    c.traffic.course.class ≡ Some Zero
knows_zero e c sure is = grind arith

-- ---- a unit of the end

-- it is no break: the end is fair
pub own_mild : (d : Direction) (local : Local) (at : ℕ) (v : Value) (old new : Joint) → Steps d (passes_own at v) old new →
    IsFollowed d (wholes.begin (calls_from d) local) old → IsGoing old.judge →
    IsNoBreak (takes (way_of d) v old.judge.traffic).told.finding
own_mild d local at v old new (read, octets, (put, begun, is)) f j =
    is_fair d local f.events (whole_of f) v new.put f.along begun put (grind arith)

pub own_is : (barred : Class) (d : Direction) (v : Value) (c : Passed) → IsStillJudged barred c → Sure c →
    (c.traffic.course.class ≡ Some barred → ⊥) → IsNoBreak (takes (way_of d) v c.traffic).told.finding →
    (takes (way_of d) v c.traffic).told.reach ≡ reach.Nothing → IsOwn barred d v c
own_is Two d v c j sure not none far = (record { firm = j.firm; goes = goes_so d c j; none = none }, sure)
own_is Zero d v c j sure not none far = record {
  goes = side_goes d c j;
  two = λ zero. not (knows_zero d c sure zero);
  none = none;
  links = λ n link all. let no : reach.Nothing ≡ reach.Everything = sym far ∙ all in cc;
}
