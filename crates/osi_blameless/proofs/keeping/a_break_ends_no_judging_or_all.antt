-- A unit that is no break leaves all that passes judged, or nothing any more; how far each other unit reaches, and what can't be read. And
-- what a side sends is no break of the other one. For the laws that an end is blamed nowhere.
use Rattle.osi_blameless.proofs.Vocabulary.{arith, ◌≡◌, ◌∙◌, ℕ, Bool, true, false, if◌then◌else◌, Option, Some, None, is_some, refl, sym}
use Rattle.osi_blameless.proofs.Vocabulary.{ap, inl, inr, ◌⊎◌, ◌||◌, Value, Connect, Class, Zero, other, Finding, Kept, Broke, Outside}
use Rattle.osi_blameless.proofs.Vocabulary.{TooMany, NotJudged, Reach, Route, reach_of, State, Outcome, class_for, unnamed_told, at_place}
use Rattle.osi_blameless.proofs.Vocabulary.{asks_by, routed, is_stopped, takes, stops_are_said, unit, zero_stays, side_zero, Cause, Mark}
use Rattle.osi_blameless.proofs.Vocabulary.{Marks, taken, Course, cause_of, changes, earlier, first_marked, is_break, kind_of, marked}
use Rattle.osi_blameless.proofs.Vocabulary.{marks_of, moment_of, moved, noted_by, number_at, packet_begins, reached, unit_passes, unread}
use Rattle.osi_blameless.proofs.Vocabulary.{unread_mark, unread_moment, way_of}
use Rattle.osi_side.specs.declared.directions.Direction.{Direction as Side}
use Rattle.osi_side.specs.declared.directions.Direction.TheVariants as side
use Rattle.osi_rules.specs.declared.courses.Course.{Course as Judging}
use Rattle.osi_rules.specs.declared.directions.Direction.{Direction}
use Rattle.osi_rules.specs.declared.directions.Direction.TheVariants.{Left, Right}
use Rattle.osi_rules.specs.declared.findings.Reach.TheVariants as reach
use Rattle.osi_rules.specs.Traffic as traffic
use Rattle.osi_judge.specs.declared.marks.Cause.TheVariants as cause
use Rattle.osi_judge.specs.Courses.{breaks}
use Rattle.osi_blameless.proofs.keeping.no_unit_of_a_whole_end_is_a_break.{IsNoBreak}
use Rattle.osi_blameless.proofs.steps.all_is_judged_or_nothing.{IsJudged, IsOver, unread_over}
use Rattle.osi_blameless.proofs.steps.what_passes_keeps_a_claim.{IsClaim}
use Rattle.osi_blameless.proofs.keeping.class_0_is_known_once_it_is_selected.{IsKnownOnce}
use Rattle.osi_blameless.proofs.shown.connections_have_the_same_places.{marked_leaves, marked_traffic, unit_knows}

-- ---- how far a unit reaches

-- a connection has lost its judgement
abbrev pub loose_by : Reach → Bool → Bool
loose_by reach.Connection old = true
loose_by reach.Nothing old = old
loose_by reach.Side old = old
loose_by reach.Everything old = old

pub record Reaches (k : Option Class) (old : Bool) (o : Outcome) : Type 0 where
  pub loose : o.state.course.loose ≡ loose_by o.told.reach old
  pub far : o.told.reach ≡ reach_of k o.told.finding

abbrev pub IsReached : Direction → State → Outcome → Type 0
IsReached d s o = Reaches (class_for d s.course) s.course.loose o

pub reached_loose : (d : Direction) (r : Reach) (c : Judging) (old : Bool) → c.loose ≡ old → (traffic.reached d r c).loose ≡ loose_by r old
reached_loose d r c old e = grind arith

to_unnamed : (d : Direction) (v : Value) (s : State) → IsReached d s (unnamed_told d v s)
to_unnamed d v s = grind (arith, reached_loose)

at_any : (d : Direction) (v : Value) (s : State) (place : Option ℕ) → IsReached d s (at_place d v s place)
at_any d v s place = search (arith, to_unnamed)

asking : (d : Direction) (f : Finding) (c : Connect) (s : State) → IsReached d s (asks_by d f c s)
asking d f c s = search arith

by_route : (d : Direction) (v : Value) (s : State) (r : Route) → IsReached d s (routed d v s r)
by_route d v s r = grind (arith, asking, at_any)

pub takes_reach : (d : Direction) (v : Value) (s : State) → IsReached d s (takes d v s)
takes_reach d v s = grind (arith, by_route)

-- what ends all judging is told
all_caused : (k : Option Class) (f : Finding) → reach_of k f ≡ reach.Everything → (x : Cause) × (cause_of f ≡ Some x)
all_caused k Kept e = absurd (cc)
all_caused k NotJudged e = absurd (cc)
all_caused k Outside e = (cause.Outside, refl)
all_caused k TooMany e = (cause.TooMany, refl)
all_caused k (Broke rule) e = (cause.Broke rule, refl)

-- ---- at the judge

-- both sides are judged; a connection may have lost its judgement
pub record IsGoing (c : Course) : Type 0 where
  pub left : c.traffic.course.left_stopped ≡ false
  pub right : c.traffic.course.right_stopped ≡ false
  pub left_goes : c.left.halted ≡ None
  pub right_goes : c.right.halted ≡ None

pub halted_by : (d e : Side) (m : Mark) (c : Course) →
    (marks_of e (changes d (breaks m) (first_marked m c))).halted ≡ (marks_of e c).halted
halted_by d e m c = grind arith

pub some_earlier : (o : Option Mark) (m : Mark) → is_some (earlier o m) ≡ true
some_earlier o m = grind arith

pub reached_broke : (e : Side) (m : Mark) (r : Reach) (c : Course) → (marks_of e (reached m r c)).broke ≡ (marks_of e c).broke
reached_broke e m r c = grind arith

own_marked : (d : Side) (m : Mark) (c : Course) → is_break m.cause ≡ false →
    (marks_of d (changes d (breaks m) (first_marked m c))).broke ≡ (marks_of d c).broke
own_marked d m c h = grind arith

module _ (d : Side) (at : ℕ) (v : Value) (c : Course) where
  abbrev pub o : Outcome
  o = takes (way_of d) v c.traffic

  -- what it comes to, before what was found is noted
  abbrev pub mid : Course
  mid = moved (moment_of d at v o.told (taken d at v o.told.meaning o.told.place c.sessions)) (record c { traffic = o.state })

  abbrev pub mark : Cause → Mark
  mark k = record { direction = d; offset = at; unit = Some (kind_of v); connection = number_at o.told.place mid.sessions; cause = k }

  pub mid_marks : (e : Side) → marks_of e mid ≡ marks_of e c
  mid_marks e = grind arith

  halts_none : (e : Side) (k : Option Cause) → o.told.reach ≡ reach.Nothing →
      (marks_of e (noted_by d at v o.told k mid)).halted ≡ (marks_of e c).halted
  halts_none e k is = grind (arith, mid_marks, halted_by)

  halts_part : (e : Side) (k : Option Cause) → o.told.reach ≡ reach.Connection →
      (marks_of e (noted_by d at v o.told k mid)).halted ≡ (marks_of e c).halted
  halts_part e k is = grind (arith, mid_marks, halted_by)

  abbrev next : Course
  next = unit_passes d at v c

  pub stops_so : (r : Reach) → o.told.reach ≡ r → (e : Direction) →
      is_stopped e next.traffic.course ≡ (traffic.stops_by (way_of d) r e || is_stopped e c.traffic.course)
  stops_so r is e = grind (arith, unit_knows, stops_are_said)

  pub reach_so : IsReached (way_of d) c.traffic o
  reach_so = takes_reach (way_of d) v c.traffic

  pub loose_so : (r : Reach) → o.told.reach ≡ r → next.traffic.course.loose ≡ loose_by r c.traffic.course.loose
  loose_so r is = grind (arith, unit_knows, reach_so)

  pub nothing_ends : o.told.reach ≡ reach.Nothing → IsJudged c → IsJudged next
  nothing_ends is j = record {
    left = stops_so reach.Nothing is Left ∙ j.left;
    right = stops_so reach.Nothing is Right ∙ j.right;
    firm = loose_so reach.Nothing is ∙ j.firm;
    left_goes = halts_none side.Left (cause_of o.told.finding) is ∙ j.left_goes;
    right_goes = halts_none side.Right (cause_of o.told.finding) is ∙ j.right_goes;
  }

  pub all_ends : o.told.reach ≡ reach.Everything → IsOver next
  all_ends is =
      let (x, caused) = all_caused (class_for (way_of d) c.traffic.course) o.told.finding (sym reach_so.far ∙ is) in
      search (arith, stops_so reach.Everything is Left, stops_so reach.Everything is Right)

  pub side_so : o.told.reach ≡ reach.Side → IsKnownOnce c.traffic →
      (next.traffic.course.class ≡ Some Zero) × (is_stopped (way_of d) next.traffic.course ≡ true)
  side_so is once =
      let k = side_zero (class_for (way_of d) c.traffic.course) o.told.finding (sym reach_so.far ∙ is) in (
        grind (arith, unit_knows d at v c, zero_stays (unit (way_of d) v) c.traffic (grind arith)),
        stops_so reach.Side is (way_of d) ∙ (grind arith),
      )

  pub nothing_goes : o.told.reach ≡ reach.Nothing → IsGoing c → IsGoing next
  nothing_goes is j = record {
    left = stops_so reach.Nothing is Left ∙ j.left;
    right = stops_so reach.Nothing is Right ∙ j.right;
    left_goes = halts_none side.Left (cause_of o.told.finding) is ∙ j.left_goes;
    right_goes = halts_none side.Right (cause_of o.told.finding) is ∙ j.right_goes;
  }

  pub part_goes : o.told.reach ≡ reach.Connection → IsGoing c → IsGoing next
  part_goes is j = record {
    left = stops_so reach.Connection is Left ∙ j.left;
    right = stops_so reach.Connection is Right ∙ j.right;
    left_goes = halts_part side.Left (cause_of o.told.finding) is ∙ j.left_goes;
    right_goes = halts_part side.Right (cause_of o.told.finding) is ∙ j.right_goes;
  }

  -- in class 0
  pub side_known : o.told.reach ≡ reach.Side → IsKnownOnce c.traffic → c.traffic.course.class ≡ Some Zero
  side_known is once = grind (arith, side_zero, reach_so)

  pub far_of : (f : Finding) → o.told.finding ≡ f → o.told.reach ≡ reach_of (class_for (way_of d) c.traffic.course) f
  far_of f is = reach_so.far ∙ ap (reach_of (class_for (way_of d) c.traffic.course)) is

  -- how far one that is no break reaches
  pub mild_reach : (f : Finding) → o.told.finding ≡ f → IsNoBreak f → (o.told.reach ≡ reach.Nothing) ⊎ (o.told.reach ≡ reach.Everything)
  mild_reach Kept is none = inl (far_of Kept is)
  mild_reach NotJudged is none = inl (far_of NotJudged is)
  mild_reach TooMany is none = inr (far_of TooMany is)
  mild_reach (Broke rule) is none = absurd none
  mild_reach Outside is none = absurd none

  -- a unit that is no break of its side leaves it without one
  own_by : (f : Finding) → IsNoBreak f → (marks_of d (noted_by d at v o.told (cause_of f) mid)).broke ≡ (marks_of d c).broke
  own_by f none = grind (arith, mid_marks, reached_broke, own_marked)

  pub own_unbroken : IsNoBreak o.told.finding → (marks_of d next).broke ≡ (marks_of d c).broke
  own_unbroken none = own_by o.told.finding none

-- nor does any unit of the other side
pub other_unbroken : (d : Side) (at : ℕ) (v : Value) (c : Course) →
    (marks_of d (unit_passes (other d) at v c)).broke ≡ (marks_of d c).broke
other_unbroken d at v c = by (cause_of (o (other d) at v c).told.finding)
  where
    by : (k : Option Cause) → (marks_of d (noted_by (other d) at v (o (other d) at v c).told k (mid (other d) at v c))).broke
        ≡ (marks_of d c).broke
    by None = ap (λ (m : Marks). m.broke) (mid_marks (other d) at v c d)
    by (Some k) =
        let m = mark (other d) at v c k in
        grind (arith, reached_broke, mid_marks)

-- ---- a packet begins

pub begins_going : (e : Side) (c : Course) → IsGoing c → IsGoing (packet_begins e c)
begins_going e c j = grind arith

-- ---- what can't be read

abbrev pub refuses : Side → (at : ℕ) → Cause → Course → Course
refuses d at k c = marked (unread_mark d at k) (traffic.refused_reach (way_of d) c.traffic)
    (moved (unread_moment d at k c.sessions) (record c { traffic = traffic.refused (way_of d) c.traffic }))

abbrev pub unread_if : Bool → Side → (at : ℕ) → Cause → Course → Course
unread_if b d at k c = if b then c else refuses d at k c

module _ (d : Side) (at : ℕ) (k : Cause) (c : Course) where
  pub refused_traffic : (refuses d at k c).traffic ≡ traffic.refused (way_of d) c.traffic
  refused_traffic = marked_traffic (unread_mark d at k) (traffic.refused_reach (way_of d) c.traffic) _

  pub refused_over : traffic.refused_reach (way_of d) c.traffic ≡ reach.Everything → IsOver (refuses d at k c)
  refused_over is = grind (arith, some_earlier)

  pub known_too : (e : Side) → IsKnownOnce c.traffic → class_for (way_of e) c.traffic.course ≡ Some Zero →
      c.traffic.course.class ≡ Some Zero
  known_too e once h = grind arith

pub unread_unbroken : (d : Side) (at : ℕ) (k : Cause) (c : Course) → (marks_of d (unread (other d) at k c)).broke ≡ (marks_of d c).broke
unread_unbroken d at k c = grind (arith, reached_broke)

-- it joins nothing
pub unread_sessions : (d : Side) (at : ℕ) (k : Cause) (c : Course) → (unread d at k c).sessions ≡ c.sessions
unread_sessions d at k c = grind (arith, marked_leaves)

-- ---- what stays so, whatever passes

-- nothing is judged any more, and this side has broken no rule
pub record IsLeft (d : Side) (c : Course) : Type 0 where
  pub over : IsOver c
  pub unbroken : (marks_of d c).broke ≡ None

pub left_claim : (d : Side) → IsClaim (IsLeft d)
left_claim d = grind (arith, unread_over)

-- what has lost its judgement stays so
pub loose_more : (r : Reach) → loose_by r true ≡ true
loose_more r = grind arith
