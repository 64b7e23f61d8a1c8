-- If no session of a side is to blame at any moment, and the judge finds no break of its transport, the first break of all, of transport
-- and of sessions, is of the other side. For the laws that an end is never blamed first.
use Rattle.osi_blameless.proofs.Vocabulary.{arith, ◌≡◌, ◌∙◌, ◌⊎◌, inl, inr, refl, sym, ap, subst, ℕ, Bool, true, false, List, [], ◌∷◌, ◌++◌}
use Rattle.osi_blameless.proofs.Vocabulary.{Option, None, Some, is_some, AllByRecursion, Value, Capture, other, Direction, Left, Right}
use Rattle.osi_blameless.proofs.Vocabulary.{Finding, takes, Told, BreaksFirst, IsBreakOf, IsFirstOf, IsToBlame, of_session, of_transport}
use Rattle.osi_blameless.proofs.Vocabulary.{Cause, First, Mark, Course, Moment, cause_of, changes, comes_to, first_marked, is_break}
use Rattle.osi_blameless.proofs.Vocabulary.{mark_by, marked_past, marks_of, noted_by, packet_begins, unit_passes, unread, unread_mark}
use Rattle.osi_blameless.proofs.Vocabulary.{unread_moment, way_of}
use Rattle.osi_rules.specs.Traffic as traffic
use Rattle.osi_judge.specs.Courses.{breaks}
use Rattle.osi_judge.specs.States as states
use Rattle.osi_blameless.proofs.keeping.a_break_ends_no_judging_or_all.{mid, other_unbroken, own_unbroken, reached_broke, refuses}
use Rattle.osi_blameless.proofs.keeping.a_break_ends_no_judging_or_all.{some_earlier, unread_if, unread_unbroken}
use Rattle.osi_blameless.proofs.keeping.no_unit_of_a_whole_end_is_a_break.{IsNoBreak}
use Rattle.osi_blameless.proofs.small_facts_that_many_lemmas_use.{all_join}
use Rattle.osi_blameless.proofs.steps.all_is_judged_or_nothing.{marked_first}
use Rattle.osi_blameless.proofs.steps.what_passes_keeps_a_claim.{IsClaim, after_kept}
use Rattle.osi_blameless.proofs.standing.nobody_of_a_side_is_to_blame.{NoneWas, moment, unit_past}

-- ---- breaks of transport

-- what was found of the transport at this moment is no break, or one of the other side
abbrev pub IsOfOther : Direction → Moment → Type 0
IsOfOther d m = (k : Mark) → m.mark ≡ Some k → is_break k.cause ≡ true → k.direction ≡ other d

-- neither the first break of transport is of this side, nor that of any moment
pub record IsUnblamed (d : Direction) (c : Course) : Type 0 where
  pub first : (f : First) → c.first ≡ Some f → f.direction ≡ other d
  pub past : AllByRecursion (IsOfOther d) c.past

-- so it is as long as this side has broken no rule
abbrev IsMarked : Direction → Course → Type 0
IsMarked d c = (marks_of d c).broke ≡ None → IsUnblamed d c

same_or_other : (d e : Direction) → (e ≡ d) ⊎ (e ≡ other d)
same_or_other d e = grind arith

-- ---- a mark

mark_direction : (e : Direction) (at : ℕ) (v : Value) (n : Option ℕ) (o : Option Cause) (k : Mark) → mark_by e at v n o ≡ Some k →
    k.direction ≡ e
mark_direction e at v n o k is = grind arith

mild_mark : {A : Type 0} (e : Direction) (at : ℕ) (v : Value) (n : Option ℕ) (f : Finding) (k : Mark) → IsNoBreak f →
    mark_by e at v n (cause_of f) ≡ Some k → is_break k.cause ≡ true → A
mild_mark e at v n f k none is bad = grind arith

mild_first : (e : Direction) (at : ℕ) (v : Value) (told : Told) (f : Finding) (c : Course) → IsNoBreak f →
    (noted_by e at v told (cause_of f) c).first ≡ c.first
mild_first e at v told f c none = grind (arith, marked_first)

noted_first : (e : Direction) (at : ℕ) (v : Value) (told : Told) (o : Option Cause) (c : Course) (f : First) →
    (noted_by e at v told o c).first ≡ Some f → (c.first ≡ Some f) ⊎ (f.direction ≡ e)
noted_first e at v told o c f is = grind (arith, marked_first)

-- the side has broken a rule then
breaks_one : {A : Type 0} (d : Direction) (m : Mark) (c : Course) → is_break m.cause ≡ true →
    (marks_of d (changes d (breaks m) (first_marked m c))).broke ≡ None → A
breaks_one d m c bad none = grind (arith, some_earlier)

-- ---- a unit

module _ (d : Direction) (at : ℕ) (v : Value) (c : Course) where
  abbrev found : Finding
  found = (takes (way_of d) v c.traffic).told.finding

  no_break : (f : Finding) → (marks_of d (noted_by d at v (takes (way_of d) v c.traffic).told (cause_of f) (mid d at v c))).broke ≡ None →
      IsNoBreak f
  no_break f none = grind (arith, reached_broke, breaks_one)

  then_past : (e : Direction) → AllByRecursion (IsOfOther d) c.past → IsOfOther d (moment e at v c) →
      AllByRecursion (IsOfOther d) (unit_passes e at v c).past
  then_past e past last =
      subst (AllByRecursion (IsOfOther d)) (sym (unit_past e at v c))
      (all_join (IsOfOther d) c.past (moment e at v c ∷ []) past (last, tt))

  -- of this side
  own_marked : IsMarked d c → IsMarked d (unit_passes d at v c)
  own_marked h unbroken =
      let none = no_break found unbroken in
      let before = h (sym (own_unbroken d at v c none) ∙ unbroken) in
      record {
        first = λ f is. before.first f (sym (mild_first d at v (takes (way_of d) v c.traffic).told found (mid d at v c) none) ∙ is);
        past = then_past d before.past (λ k is bad. mild_mark d at v _ found k none is bad);
      }

  -- of the other side
  other_marked : IsMarked d c → IsMarked d (unit_passes (other d) at v c)
  other_marked h unbroken =
      let before = h (sym (other_unbroken d at v c) ∙ unbroken) in
      record {
        first = λ f is. by before f (noted_first (other d) at v (takes (way_of (other d)) v c.traffic).told
            (cause_of (takes (way_of (other d)) v c.traffic).told.finding) (mid (other d) at v c) f is);
        past = then_past (other d) before.past (λ k is bad. mark_direction (other d) at v _ _ k is);
      }
    where
      by : IsUnblamed d c → (f : First) → (c.first ≡ Some f) ⊎ (f.direction ≡ other d) → f.direction ≡ other d
      by before f (inl is) = before.first f is
      by before f (inr of) = of

-- ---- what can't be read

module _ (d : Direction) (at : ℕ) (k : Cause) (c : Course) where
  bad_past : (e : Direction) → AllByRecursion (IsOfOther d) c.past → (is_break k ≡ true → e ≡ other d) →
      AllByRecursion (IsOfOther d) (refuses e at k c).past
  bad_past e past of =
      subst (AllByRecursion (IsOfOther d)) (sym (marked_past (unread_mark e at k) (traffic.refused_reach (way_of e) c.traffic) _))
      (all_join (IsOfOther d) c.past (unread_moment e at k c.sessions ∷ []) past (grind arith, tt))

  bad_first : (e : Direction) → ((f : First) → c.first ≡ Some f → f.direction ≡ other d) → (is_break k ≡ true → e ≡ other d) →
      (f : First) → (refuses e at k c).first ≡ Some f → f.direction ≡ other d
  bad_first e first of f is = grind (arith, marked_first)

  refused : (e : Direction) → IsUnblamed d c → (is_break k ≡ true → e ≡ other d) → IsUnblamed d (refuses e at k c)
  refused e h of = record { first = bad_first e h.first of; past = bad_past e h.past of }

  -- of this side
  own_by : (x : Bool) → is_break k ≡ x → IsMarked d c → IsMarked d (refuses d at k c)
  own_by true bad h unbroken = grind (arith, reached_broke, breaks_one)
  own_by false mild h unbroken = refused d (h (grind (arith, reached_broke))) (λ bad. absurd (let no : false ≡ true = sym mild ∙ bad in cc))

  own_if : (b : Bool) → IsMarked d c → IsMarked d (unread_if b d at k c)
  own_if true h = h
  own_if false h = own_by (is_break k) refl h

  -- of the other side
  other_if : (b : Bool) → IsUnblamed d c → IsUnblamed d (unread_if b (other d) at k c)
  other_if true h = h
  other_if false h = refused (other d) h (λ bad. refl)

  other_bad : IsMarked d c → IsMarked d (unread (other d) at k c)
  other_bad h unbroken = other_if (is_some (marks_of (other d) c).halted) (h (sym (unread_unbroken d at k c) ∙ unbroken))

-- ---- whatever passes

module _ (d : Direction) where
  begins_broke : (e : Direction) (c : Course) → (marks_of d (packet_begins e c)).broke ≡ (marks_of d c).broke
  begins_broke e c = grind arith

  begins_marked : (e : Direction) (c : Course) → IsMarked d c → IsMarked d (packet_begins e c)
  begins_marked e c h unbroken = let before = h (sym (begins_broke e c) ∙ unbroken) in record { first = before.first; past = before.past }

  passes_marked : (e : Direction) (at : ℕ) (v : Value) (c : Course) → (e ≡ d) ⊎ (e ≡ other d) → IsMarked d c →
      IsMarked d (unit_passes e at v c)
  passes_marked e at v c (inl is) h = subst (λ (x : Direction). IsMarked d (unit_passes x at v c)) (sym is) (own_marked d at v c h)
  passes_marked e at v c (inr is) h = subst (λ (x : Direction). IsMarked d (unit_passes x at v c)) (sym is) (other_marked d at v c h)

  bad_marked : (e : Direction) (at : ℕ) (k : Cause) (c : Course) → (e ≡ d) ⊎ (e ≡ other d) → IsMarked d c → IsMarked d (unread e at k c)
  bad_marked e at k c (inl is) h = subst (λ (x : Direction). IsMarked d (unread x at k c)) (sym is)
      (own_if d at k c (is_some (marks_of d c).halted) h)
  bad_marked e at k c (inr is) h = subst (λ (x : Direction). IsMarked d (unread x at k c)) (sym is) (other_bad d at k c h)

  marked_claim : IsClaim (IsMarked d)
  marked_claim = record {
    begins = begins_marked;
    passes = λ e at v c h. passes_marked e at v c (same_or_other d e) h;
    bad = λ e at k c h. bad_marked e at k c (same_or_other d e) h;
  }

  pub capture_unblamed : (capture : Capture) → (marks_of d (comes_to capture).course).broke ≡ None → IsUnblamed d (comes_to capture).course
  capture_unblamed capture unbroken =
      after_kept (IsMarked d) marked_claim capture states.begin
      (λ none. record { first = λ f is. absurd (cc is); past = tt }) unbroken

-- ---- breaks of transport

all_at : (P : Moment → Type 0) (front back : List Moment) (m : Moment) → AllByRecursion P (front ++ m ∷ back) → P m
all_at P [] back m h = h.0
all_at P (x ∷ front) back m h = all_at P front back m h.1

other_of : (d e : Direction) → (e ≡ d → ⊥) → e ≡ other d
other_of d e h = grind arith

pub first_of_all : (d : Direction) (f : First) (past : List Moment) → AllByRecursion (NoneWas d) past →
    AllByRecursion (IsOfOther d) past → BreaksFirst f past → f.direction ≡ other d
first_of_all d f past none of b = by b.breaks
  where
    at : (P : Moment → Type 0) → AllByRecursion P past → P b.moment
    at P h = all_at P b.front b.back b.moment (subst (AllByRecursion P) b.parts h)

    by : IsBreakOf f b.moment → f.direction ≡ other d
    by (of_transport k is bad told) = ap (λ (x : First). x.direction) told ∙ at (IsOfOther d) of k is bad
    by (of_session place quiet layer side blame) =
        other_of d f.direction (λ same. (at (NoneWas d) none).live place blame.connection blame.there
        (subst (λ (e : Direction). IsToBlame e blame.connection) same blame.broke))

-- if it is neither of left nor of right, there is none
pub neither_first : (o : Option First) (past : List Moment) → ((f : First) → BreaksFirst f past → f.direction ≡ Right) →
    ((f : First) → BreaksFirst f past → f.direction ≡ Left) → IsFirstOf o past → o ≡ None
neither_first o past left right is = grind arith

-- nor is there a first break of transport, if it is of neither
pub no_transport : (c : Course) → IsUnblamed Left c → IsUnblamed Right c → c.first ≡ None
no_transport c left right = by c.first left.first right.first
  where
    by : (o : Option First) → ((f : First) → o ≡ Some f → f.direction ≡ Right) → ((f : First) → o ≡ Some f → f.direction ≡ Left) → o ≡ None
    by None left right = refl
    by (Some f) left right = absurd (let no : Left ≡ Right = sym (right f refl) ∙ left f refl in cc)
