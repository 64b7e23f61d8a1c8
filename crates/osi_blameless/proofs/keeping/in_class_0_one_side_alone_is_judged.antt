-- In class 0 a break of the other side leaves an end judged alone, and whatever passes leaves that so, as long as each unit of the end is
-- right. For the laws that an end is to blame nowhere.
use Rattle.osi_blameless.proofs.Vocabulary.{arith, ◌≡◌, ◌∙◌, ℕ, Bool, true, false, Option, Some, refl, sym, ap, subst, ◌||◌, is_some, Value}
use Rattle.osi_blameless.proofs.Vocabulary.{Class, Zero, other, Direction, reach_of, State, class_for, is_stopped, Finding, Kept, Broke}
use Rattle.osi_blameless.proofs.Vocabulary.{Outside, TooMany, NotJudged, unit, zero_stays, Cause, Course, cause_of, marks_of, packet_begins}
use Rattle.osi_blameless.proofs.Vocabulary.{unit_passes, unread, way_of}
use Rattle.osi_rules.specs.Traffic as traffic
use Rattle.osi_rules.specs.declared.findings.Reach.TheVariants as reach
use Rattle.osi_judge.specs.declared.marks.Cause.TheVariants as cause
use Rattle.osi_blameless.proofs.keeping.a_break_ends_no_judging_or_all.{far_of, loose_by, loose_more, loose_so, mark, mid, o, reach_so}
use Rattle.osi_blameless.proofs.keeping.a_break_ends_no_judging_or_all.{refused_over}
use Rattle.osi_blameless.proofs.keeping.a_break_ends_no_judging_or_all.{refuses, side_so, stops_so, unread_if, some_earlier}
use Rattle.osi_blameless.proofs.steps.all_is_judged_or_nothing.{IsJudged, IsOver}
use Rattle.osi_blameless.proofs.steps.what_is_halted_stays_halted.{IsHalted, halted_claim}
use Rattle.osi_blameless.proofs.steps.what_passes_keeps_a_claim.{IsClaim}
use Rattle.osi_blameless.proofs.keeping.class_0_is_known_once_it_is_selected.{IsKnownOnce}
use Rattle.osi_blameless.proofs.shown.connections_have_the_same_places.{unit_knows}

-- ---- a connection has lost its judgement

abbrev pub IsLoose : Course → Type 0
IsLoose c = c.traffic.course.loose ≡ true

pub loose_claim : IsClaim IsLoose
loose_claim = grind (arith, loose_so, loose_by, loose_more)

-- ---- the end alone is judged

-- class 0 is selected; this side is judged, and the other side is not judged any more
pub record IsAlone (d : Direction) (c : Course) : Type 0 where
  pub zero : c.traffic.course.class ≡ Some Zero
  pub firm : c.traffic.course.loose ≡ false
  pub own : is_stopped (way_of d) c.traffic.course ≡ false
  pub stopped : is_stopped (way_of (other d)) c.traffic.course ≡ true
  pub halted : IsHalted (other d) c

pub alone_begins : (d e : Direction) (c : Course) → IsAlone d c → IsAlone d (packet_begins e c)
alone_begins d e c a = grind arith

pub alone_own : (d : Direction) (at : ℕ) (v : Value) (c : Course) → (traffic.takes (way_of d) v c.traffic).told.finding ≡ Kept →
    IsAlone d c → IsAlone d (unit_passes d at v c)
alone_own d at v c kept a =
    let is : (o d at v c).told.reach ≡ reach.Nothing = far_of d at v c Kept kept in
    record {
      zero = ap (λ (s : State). s.course.class) (unit_knows d at v c) ∙ zero_stays (unit (way_of d) v) c.traffic a.zero;
      firm = loose_so d at v c reach.Nothing is ∙ a.firm;
      own = stops_so d at v c reach.Nothing is (way_of d) ∙ a.own;
      stopped = stops_so d at v c reach.Nothing is (way_of (other d)) ∙ a.stopped;
      halted = (halted_claim (other d)).passes d at v c a.halted;
    }

-- ---- how it comes to that

side_caused : (k : Option Class) (f : Finding) → reach_of k f ≡ reach.Side → (x : Cause) × (cause_of f ≡ Some x)
side_caused k Kept e = absurd (cc)
side_caused k NotJudged e = absurd (cc)
side_caused k Outside e = absurd (cc)
side_caused k TooMany e = absurd (cc)
side_caused k (Broke rule) e = (cause.Broke rule, refl)

goes_on : (d : Direction) (c : Course) → IsJudged c → is_some (marks_of d c).halted ≡ false
goes_on d c j = grind arith

other_apart : (d : Direction) (b : Bool) → (traffic.stops_by (way_of (other d)) reach.Side (way_of d) || b) ≡ b
other_apart d b = grind arith

-- a unit of the other side
pub unit_alone : (d : Direction) (at : ℕ) (v : Value) (c : Course) → IsJudged c → IsKnownOnce c.traffic →
    (traffic.takes (way_of (other d)) v c.traffic).told.reach ≡ reach.Side → IsAlone d (unit_passes (other d) at v c)
unit_alone d at v c j once is =
    let e = other d in
    let (zero, stopped) = side_so e at v c is once in
    let (x, caused) = side_caused (class_for (way_of e) c.traffic.course) (o e at v c).told.finding (sym (reach_so e at v c).far ∙ is) in
    record {
      zero = zero;
      firm = loose_so e at v c reach.Side is ∙ j.firm;
      own = stops_so e at v c reach.Side is (way_of d) ∙ other_apart d (is_stopped (way_of d) c.traffic.course) ∙ (grind arith);
      stopped = stopped;
      halted = grind (arith, o, mid, mark, some_earlier);
    }

-- and what can't be read of it
pub data AfterUnread (d : Direction) (c : Course) : Type 0 where
  all_over : IsOver c → AfterUnread d c
  alone : IsAlone d c → AfterUnread d c

module _ (d : Direction) (at : ℕ) (k : Cause) (c : Course) (j : IsJudged c) (once : IsKnownOnce c.traffic) where
  abbrev e : Direction
  e = other d

  pub unread_is : unread e at k c ≡ refuses e at k c
  unread_is = ap (λ (b : Bool). unread_if b e at k c) (goes_on e c j)

  pub refused_over_so : traffic.refused_reach (way_of e) c.traffic ≡ reach.Everything → IsOver (unread e at k c)
  refused_over_so is = subst IsOver (sym unread_is) (refused_over e at k c is)

  pub unread_alone : AfterUnread d (unread e at k c)
  unread_alone = grind (arith, refused_over_so)
