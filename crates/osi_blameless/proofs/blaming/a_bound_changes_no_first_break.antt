-- What a capture comes to at a judge with a bound, beside what it comes to at one without: of the transport the same is found, and at no
-- moment is a session of a side to blame at the one if none ever is at the other.
-- For the law on a judge with a bound.
use Rattle.osi_blameless.proofs.Vocabulary.{arith, ◌≡◌, ◌∙◌, refl, sym, ap, subst, ℕ, Bool, if◌then◌else◌, is_some, List, [], ◌∷◌, ◌++◌}
use Rattle.osi_blameless.proofs.Vocabulary.{AllByRecursion, Option, Value, Capture, Direction, Left, Reach, Told, Outcome, takes, Cause}
use Rattle.osi_blameless.proofs.Vocabulary.{Mark, Octets, Sessions, taken, Course, Moment, fresh_within, marked, marks_of, moved, noted_by}
use Rattle.osi_blameless.proofs.Vocabulary.{number_at, packet_begins, unit_passes, unread, unread_mark, unread_moment, way_of, begin_within}
use Rattle.osi_blameless.proofs.Vocabulary.{comes_to, marked_past, AreMomentsOf, IsCourseOf, IsMomentOf, comes_within}
use Rattle.osi_rules.specs.Traffic.{State as Traffic}
use Rattle.osi_rules.specs.Traffic as traffic
use Rattle.osi_judge.specs.Courses.{fresh}
use Rattle.osi_judge.specs.States.{begin}
use Rattle.osi_blameless.proofs.steps.what_passes_keeps_a_claim_on_two_courses.{IsClaim, after_kept}
use Rattle.osi_blameless.proofs.blaming.no_end_is_ever_to_blame.{IsBlameless}
use Rattle.osi_blameless.proofs.standing.nobody_of_a_side_is_to_blame.{NeverToBlame, NoneIsToBlame, NoneWas, moment, never_begins}
use Rattle.osi_blameless.proofs.standing.nobody_of_a_side_is_to_blame.{never_refused, never_unit, then_joined, unit_past}
use Rattle.osi_blameless.proofs.shown.connections_have_the_same_places.{marked_leaves, marked_traffic, unit_joins, unit_knows}
use Rattle.osi_blameless.proofs.blaming.nobody_else_is_to_blame_within_a_bound.{taken_none}
use Rattle.osi_blameless.proofs.blaming.the_first_break_of_all_is_of_the_other_side.{IsOfOther}
use Rattle.osi_blameless.proofs.blaming.what_is_judged_within_a_bound.{AreBounded, begun_bounded, same_number, taken_bounded}

-- ---- what is found of the transport

record HasMarksOf (c w : Course) : Type 0 where
  left : c.left ≡ w.left
  right : c.right ≡ w.right
  first : c.first ≡ w.first

marked_same : (m : Mark) (r : Reach) (c w : Course) → HasMarksOf c w → HasMarksOf (marked m r c) (marked m r w)
marked_same m r c w h = grind arith

noted_same : (d : Direction) (at : ℕ) (v : Value) (told : Told) (o : Option Cause) (c w : Course) →
    number_at told.place c.sessions ≡ number_at told.place w.sessions → HasMarksOf c w →
    HasMarksOf (noted_by d at v told o c) (noted_by d at v told o w)
noted_same d at v told o c w number h = grind (arith, marked_same)

-- ---- one moment more

moments_more : (past wholes : List Moment) (m n : Moment) → IsMomentOf m n → AreMomentsOf past wholes →
    AreMomentsOf (past ++ m ∷ []) (wholes ++ n ∷ [])
moments_more [] [] m n k h = (k, tt)
moments_more [] (y ∷ wholes) m n k h = absurd h
moments_more (x ∷ past) [] m n k h = absurd h
moments_more (x ∷ past) (y ∷ wholes) m n k h = (h.0, moments_more past wholes m n k h.1)

-- ---- no session of a side is ever to blame

parts_of : (P : Moment → Type 0) (past : List Moment) (m : Moment) → AllByRecursion P (past ++ m ∷ []) → AllByRecursion P past × P m
parts_of P [] m h = (tt, h.0)
parts_of P (x ∷ past) m h = let (front, last) = parts_of P past m h.1 in ((h.0, front), last)

-- ---- a capture

record IsWithin (most : ℕ) (d : Direction) (c w : Course) : Type 0 where
  traffic : c.traffic ≡ w.traffic
  marks : HasMarksOf c w
  sessions : AreBounded most c.sessions w.sessions
  past : AreMomentsOf c.past w.past
  no_worse : AllByRecursion (NoneWas d) w.past → NeverToBlame d c

module _ (most : ℕ) (d : Direction) where
  begins_within : (e : Direction) (c w : Course) → IsWithin most d c w → IsWithin most d (packet_begins e c) (packet_begins e w)
  begins_within e c w h = record {
    traffic = ap (traffic.packet_begins (way_of e)) h.traffic;
    marks = record { left = h.marks.left; right = h.marks.right; first = h.marks.first };
    sessions = begun_bounded most e c.sessions w.sessions h.sessions;
    past = h.past;
    no_worse = λ none. never_begins d e c (h.no_worse none);
  }

  -- a unit, of which both are told the same
  module _ (e : Direction) (at : ℕ) (v : Value) (c w : Course) (h : IsWithin most d c w) where
    abbrev o : Outcome
    o = takes (way_of e) v c.traffic

    told_same : o ≡ takes (way_of e) v w.traffic
    told_same = ap (takes (way_of e) v) h.traffic

    abbrev joined_by : Outcome → Sessions
    joined_by x = taken e at v x.told.meaning x.told.place w.sessions

    by_one : AreBounded most (then_joined e at v c) (joined_by o)
    by_one = taken_bounded most e at v c.sessions w.sessions h.sessions o.told.meaning o.told.place

    joined_so : AreBounded most (then_joined e at v c) (then_joined e at v w)
    joined_so = subst (λ (x : Outcome). AreBounded most (then_joined e at v c) (joined_by x)) told_same by_one

    number_so : number_at o.told.place (then_joined e at v c) ≡ number_at o.told.place (joined_by o)
    number_so = same_number most o.told.place (then_joined e at v c) (joined_by o) by_one

    mark_so : (moment e at v c).mark ≡ (moment e at v w).mark
    mark_so = grind (arith, number_so, told_same)

    marks_so : HasMarksOf (unit_passes e at v c) (unit_passes e at v w)
    marks_so = grind (arith, told_same, noted_same, then_joined, number_so)

    none_so : NoneIsToBlame d c.sessions → NoneIsToBlame d (then_joined e at v w) → NoneIsToBlame d (then_joined e at v c)
    none_so before after = search (arith, taken_none, told_same)

    worse_so : AllByRecursion (NoneWas d) (unit_passes e at v w).past → NeverToBlame d (unit_passes e at v c)
    worse_so none =
        let (front, last) = parts_of (NoneWas d) w.past (moment e at v w) (subst (AllByRecursion (NoneWas d)) (unit_past e at v w) none) in
        let before = h.no_worse front in
        never_unit d e at v c before (subst (NoneIsToBlame d) (sym (unit_joins e at v c)) (none_so before.now last))

    past_so : AreMomentsOf (unit_passes e at v c).past (unit_passes e at v w).past
    past_so = grind (arith, unit_past, moment, moments_more, mark_so, joined_so)

    passes_within : IsWithin most d (unit_passes e at v c) (unit_passes e at v w)
    passes_within = record {
      traffic = unit_knows e at v c ∙ ap (λ (x : Outcome). x.state) told_same ∙ sym (unit_knows e at v w);
      marks = marks_so;
      sessions = grind (arith, unit_joins, then_joined, joined_so);
      past = past_so;
      no_worse = worse_so;
    }

  -- what can't be read
  module _ (e : Direction) (at : ℕ) (cause : Cause) (c w : Course) (h : IsWithin most d c w) where
    abbrev mark : Mark
    mark = unread_mark e at cause

    abbrev mid : Course → Traffic → Course
    mid x t = moved (unread_moment e at cause x.sessions) (record x { traffic = traffic.refused (way_of e) t })

    abbrev refused : Course → Traffic → Course
    refused x t = marked mark (traffic.refused_reach (way_of e) t) (mid x t)

    refused_never : AllByRecursion (NoneWas d) (refused w c.traffic).past → NeverToBlame d (refused c c.traffic)
    refused_never none =
        let (front, last) = parts_of (NoneWas d) w.past (unread_moment e at cause w.sessions)
        (subst (AllByRecursion (NoneWas d)) (marked_past mark (traffic.refused_reach (way_of e) c.traffic) (mid w c.traffic)) none) in
        never_refused d e at cause c (h.no_worse front)

    refused_within : IsWithin most d (refused c c.traffic) (refused w c.traffic)
    refused_within = search (arith, marked_traffic, marked_same, marked_leaves, marked_past, moments_more, refused_never)

    if_halted : (b : Bool) → IsWithin most d (if b then c else refused c c.traffic) (if b then w else refused w w.traffic)
    if_halted b = grind (arith, refused_within)

    halted_same : is_some (marks_of e c).halted ≡ is_some (marks_of e w).halted
    halted_same = grind arith

    bad_within : IsWithin most d (unread e at cause c) (unread e at cause w)
    bad_within = grind (arith, halted_same, if_halted)

  within_claim : IsClaim (IsWithin most d)
  within_claim = search (arith, begins_within, passes_within, bad_within)

  first_within : IsWithin most d (fresh_within (Octets most)) fresh
  first_within = record {
    traffic = refl;
    marks = record { left = refl; right = refl; first = refl };
    sessions = grind arith;
    past = tt;
    no_worse = λ none. record {
      now = record { live = λ i j here. absurd (cc here); done = λ i j here. absurd (cc here) };
      past = tt;
    };
  }

  capture_within : (capture : Capture) → IsWithin most d (comes_within most capture).course (comes_to capture).course
  capture_within capture =
      after_kept (IsWithin most d) within_claim capture (begin_within (Octets most)) begin
      (record { course = fresh; same = refl; so = first_within })

  of_within : (past wholes : List Moment) → AreMomentsOf past wholes → AllByRecursion (IsOfOther d) wholes →
      AllByRecursion (IsOfOther d) past
  of_within [] [] h of = tt
  of_within [] (y ∷ wholes) h of = absurd h
  of_within (x ∷ past) [] h of = absurd h
  of_within (x ∷ past) (y ∷ wholes) h of = (λ k is bad. of.0 k (sym h.0.mark ∙ is) bad, of_within past wholes h.1 of.1)

  -- an end is as blameless at such a judge as at one without a bound
  pub blameless_within : (capture : Capture) → IsBlameless d (comes_to capture).course → IsBlameless d (comes_within most capture).course
  blameless_within capture h =
      let w = capture_within capture in
      record {
        never = w.no_worse h.never.past;
        transport = record {
          first = λ f is. h.transport.first f (sym w.marks.first ∙ is);
          past = of_within (comes_within most capture).course.past (comes_to capture).course.past w.past h.transport.past;
        };
      }

pub course_within : (most : ℕ) (capture : Capture) → IsCourseOf (comes_within most capture).course (comes_to capture).course
course_within most capture = grind (arith, capture_within most Left capture)
