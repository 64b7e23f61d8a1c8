-- What the other side closes at the judge of a calling end: if a DR closed something, the end had the connection open there.
-- For the law on DRs.
use Rattle.osi_blameless.proofs.transport.Vocabulary.{ap, arith, at_found, Bool, Broke, Class, class_for, confirm, Connect, Connection}
use Rattle.osi_blameless.proofs.transport.Vocabulary.{connection_after}
use Rattle.osi_blameless.proofs.transport.Vocabulary.{Course, course_after, destination_of, disconnect, disconnected, eqb-true, error}
use Rattle.osi_blameless.proofs.transport.Vocabulary.{false, Finding}
use Rattle.osi_blameless.proofs.transport.Vocabulary.{found, found_on, Half, half_after, if◌then◌else◌, inl, inr, is_applied, is_closed}
use Rattle.osi_blameless.proofs.transport.Vocabulary.{is_closing}
use Rattle.osi_blameless.proofs.transport.Vocabulary.{is_named, is_of_connection, is_open, is_refused, is_silent, is_stray}
use Rattle.osi_blameless.proofs.transport.Vocabulary.{knows_disconnect, Left, List}
use Rattle.osi_blameless.proofs.transport.Vocabulary.{None, not, noted, NotJudged, one_told, Option, Outcome, passes_over, Phase, Reach}
use Rattle.osi_blameless.proofs.transport.Vocabulary.{reach_of, reached}
use Rattle.osi_blameless.proofs.transport.Vocabulary.{refl, Right, Rule, set, slice_get, Some, subst, sym, takes, theirs, Traffic as State}
use Rattle.osi_blameless.proofs.transport.Vocabulary.{true, Two}
use Rattle.osi_blameless.proofs.transport.Vocabulary.{uses_source, Value, Zero, ℕ, ◌&&◌, ◌==◌, ◌||◌, ◌≡◌, ◌⊎◌}
use Rattle.osi_rules.specs.declared.findings.Reach.TheVariants as reach
use Rattle.osi_rules.specs.declared.findings.Rule.TheVariants as rule
use Rattle.osi_blameless.proofs.transport.small_facts_that_many_lemmas_use.{and_first, both, closing_shuts, differ, not_not, or_last}
use Rattle.osi_blameless.proofs.transport.small_facts_that_many_lemmas_use.{or_left}
use Rattle.osi_blameless.proofs.transport.small_facts_that_many_lemmas_use.{or_right}
use Rattle.osi_blameless.proofs.transport.names.all_are_judged_unless_one_broke.{AreJudged}
use Rattle.osi_blameless.proofs.transport.names.what_holds_of_one_item.{HoldsOfEach, each_set}
use Rattle.osi_blameless.proofs.transport.names.what_keeps_names_apart.{AreApart, Sound}
use Rattle.osi_blameless.proofs.transport.requests.while_no_class_is_selected.{after_change}
use Rattle.osi_blameless.proofs.transport.connections.what_is_live_at_an_end.{IsLively, Less, dr_for, is_there, shuts_of}
use Rattle.osi_blameless.proofs.transport.connections.which_unit_of_the_other_side_passes.{Came as Passes, asks_so, came_so, for_one}
use Rattle.osi_blameless.proofs.transport.connections.which_unit_of_the_other_side_passes.{lost as spared}
use Rattle.osi_blameless.proofs.transport.connections.what_stays_of_each_connection.{AreDistinct, IsStarted, left_then, right_judged}
use Rattle.osi_blameless.proofs.transport.connections.what_stays_of_each_connection.{right_own}
use Rattle.osi_blameless.proofs.transport.names.names_stay_apart_though_one_is_lost.{AreNamedApart, each_sound}
use Rattle.osi_blameless.proofs.transport.requests.what_lasts_at_the_judge.{IsCalm, calm_noted}
pub use Rattle.osi_blameless.proofs.transport.small_facts_that_many_lemmas_use.{judged_same}

-- both sides are judged, class 0 is not selected, and each DR has closed something
pub record IsPlain (c : Course) : Type 0 where
  pub left : c.left_stopped ≡ false
  pub right : c.right_stopped ≡ false
  pub strays : c.disconnects.strays ≡ false
  pub two : c.class ≡ Some Zero → ⊥

calm_of : (c : Course) → IsPlain c → IsCalm c
calm_of c h = record { left = h.left; right = h.right }

-- both sides are judged, and class 0 is not selected
pub record IsOngoing (c : Course) : Type 0 where
  pub sure : IsCalm c
  pub two : c.class ≡ Some Zero → ⊥

pub going_of : (c : Course) → IsPlain c → IsOngoing c
going_of c h = record { sure = calm_of c h; two = h.two }

-- Both sides are judged, and no connection has lost its judgement: what laws on sessions, above this crate, have to ask.
pub record IsFirm (c : Course) : Type 0 where
  pub firm : c.loose ≡ false
  pub left : c.left_stopped ≡ false
  pub right : c.right_stopped ≡ false

-- and class 0 is not selected
pub record IsClear (c : Course) : Type 0 where
  pub sure : IsFirm c
  pub two : c.class ≡ Some Zero → ⊥

pub going_on : (c : Course) → IsClear c → IsOngoing c
going_on c h = record { sure = record { left = h.sure.left; right = h.sure.right }; two = h.two }

abbrev pub IsDr : Value → Type 0
IsDr (disconnect destination source reason user) = Unit {0}
IsDr _ = ⊥

pub dr_none : (v : Value) → shuts_of Left v ≡ None → dr_for v ≡ None
dr_none v e = grind arith

pub is_dr : (v : Value) (m : ℕ) → dr_for v ≡ Some m → IsDr v
is_dr v m e = grind arith

pub dr_is : (v : Value) (m : ℕ) → IsDr v → shuts_of Left v ≡ Some m → dr_for v ≡ Some m
dr_is v m dr e = grind arith

pub same_closed : (v : Value) (q m : ℕ) → shuts_of Left v ≡ Some q → dr_for v ≡ Some m → q ≡ m
same_closed v q m e k = grind arith

-- a unit of the other side closes nothing, or the connection with this reference
pub data Came (L : ℕ → Type 0) (v : Value) (s t : State) : Type 0 where
  stays : shuts_of Left v ≡ None → HoldsOfEach (IsLively Left L) t.connections → Came L v s t
  closes : (n : ℕ) → shuts_of Left v ≡ Some n → (p : ℕ) (c : Connection) → slice_get s.connections p ≡ Some c → c.left.reference ≡ n →
      (IsDr v → L n) → HoldsOfEach (IsLively Left (Less L n)) t.connections → Came L v s t

-- ---- what is wrong is not calm, or its connection is not judged any more

-- a break that the taker looks at
pub soft : (k : Option Class) (r : Rule) (c : Course) → passes_over r ≡ false → IsCalm (reached Right (reach_of k (Broke r)) c) →
    (reach_of k (Broke r) ≡ reach.Connection) × (is_of_connection r ≡ true)
soft k r c e h = grind (arith, differ)

reached_plain : (r : Reach) (c : Course) → (reached Right r c).disconnects.strays ≡ false → c.disconnects.strays ≡ false
reached_plain r c h = grind arith

-- ---- a unit for a connection

there_not : (a : Bool) (theirs : Half) → is_silent theirs.phase ≡ false → is_open theirs.phase ≡ false →
    (a && (is_silent theirs.phase || is_open theirs.phase)) ≡ true → ⊥
there_not a theirs h k m = grind (arith, differ)

-- left has not closed what right has not closed
still_open : (p q : Phase) → (is_silent p || is_refused p) ≡ false → is_closing p ≡ false →
    (is_closed p ≡ true → is_closing q ≡ true) → is_open q ≡ true → is_open p ≡ true
still_open p q a b c h = grind arith

module _ (L : ℕ → Type 0) (s : State) (q : ℕ) (c : Connection) (at : slice_get s.connections q ≡ Some c)
    (sound : Sound c) (started : IsStarted c) (distinct : AreDistinct s.connections)
    (lively : HoldsOfEach (IsLively Left L) s.connections) (plain : s.course.disconnects.strays ≡ false)
    (fine : s.course.left_erred ≡ false) where
  abbrev finding : Value → Finding
  finding v = found_on Right s c v

  abbrev how_far : Value → Reach
  how_far v = reach_of (class_for Right s.course) (finding v)

  abbrev after : Value → Connection
  after v = connection_after Right v (is_applied (finding v)) (how_far v) c

  abbrev course : Value → Course
  course v = noted Right (finding v) (reached Right (how_far v) (course_after Right c v (is_applied (finding v)) s.course))

  -- if it closes the connection
  less_by : (v : Value) (n : ℕ) → c.left.reference ≡ n →
      ((after v).is_judged ≡ true → is_there (after v).left (after v).right ≡ true → ⊥) → (i : ℕ) (e : Connection) →
      ((i ≡ q) × (e ≡ after v)) ⊎ ((i ≡ q → ⊥) × (slice_get s.connections i ≡ Some e)) → IsLively Left (Less L n) e
  less_by v n is none i e h j there = grind (arith, is_there)

  less_lively : (v : Value) (n : ℕ) → c.left.reference ≡ n →
      ((after v).is_judged ≡ true → is_there (after v).left (after v).right ≡ true → ⊥) →
      HoldsOfEach (IsLively Left (Less L n)) (set s.connections q (after v))
  less_lively v n is none i e at_i = less_by v n is none i e (after_change s.connections q i (after v) e at_i)

  -- of a connection that is judged no more after it nothing is claimed
  lost_lively : (v : Value) → (after v).is_judged ≡ false → HoldsOfEach (IsLively Left L) (set s.connections q (after v))
  lost_lively v lost =
      each_set (IsLively Left L) s.connections q (after v) lively (λ j there. differ (after v).is_judged j lost)

  lost_closed : (v : Value) (n : ℕ) → shuts_of Left v ≡ Some n → c.left.reference ≡ n → (IsDr v → ⊥) → (after v).is_judged ≡ false →
      Came L v s (one_told Right q c v s).state
  lost_closed v n e is none lost =
      closes n e q c at is (λ dr. absurd (none dr)) (less_lively v n is (λ j there. differ (after v).is_judged j lost))

  abbrev Told : Value → Type 0
  Told v = IsPlain (one_told Right q c v s).state.course → Came L v s (one_told Right q c v s).state

  -- ---- a connection that has lost its judgement

  module _ (lost : c.is_judged ≡ false) where
    lost_found : (v : Value) → finding v ≡ NotJudged
    lost_found v = ap (λ (b : Bool). if b then found Right s.course (uses_source Right s.connections v) c v else NotJudged) lost

    lost_came : (v : Value) → ((n : ℕ) → shuts_of Left v ≡ Some n → c.left.reference ≡ n) → Told v
    lost_came (disconnect destination source reason user) is h = grind (arith, reached_plain, differ, or_last, lost_found)
    lost_came (disconnected destination source) is h =
        lost_closed (disconnected destination source) destination refl (is destination refl) (λ dr. dr)
        (grind arith)
    lost_came (error destination cause) is h =
        lost_closed (error destination cause) destination refl (is destination refl) (λ dr. dr) (grind arith)
    lost_came v is h = stays refl (lost_lively v (grind arith))

  -- ---- one that is judged

  module _ (judged : c.is_judged ≡ true) where
    -- if it closes nothing
    abbrev Before : Value → Type 0
    Before v = is_there (after v).left (after v).right ≡ true → is_there c.left c.right ≡ true

    all_lively : (v : Value) → Before v → HoldsOfEach (IsLively Left L) (set s.connections q (after v))
    all_lively v h = grind (arith, left_then, each_set (IsLively Left L) s.connections q (after v) lively (grind (arith, left_then)))

    same_phase : (v : Value) → (half_after v c.right).phase ≡ c.right.phase → Before v
    same_phase v e = search arith

    confirms : (destination : ℕ) (x : Connect) → Before (confirm destination x)
    confirms destination x = grind (arith, left_then)

    -- if it closes the connection
    ended_there : (v : Value) → is_applied (finding v) ≡ true → is_silent (half_after v c.right).phase ≡ false →
        is_open (half_after v c.right).phase ≡ false → is_there (after v).left (after v).right ≡ true → ⊥
    ended_there v e a b there = grind (arith, there_not, right_own, right_judged)

    closed_so : (v : Value) (n : ℕ) → shuts_of Left v ≡ Some n → c.left.reference ≡ n → is_applied (finding v) ≡ true →
        is_silent (half_after v c.right).phase ≡ false → is_open (half_after v c.right).phase ≡ false → (IsDr v → L n) →
        Came L v s (one_told Right q c v s).state
    closed_so v n e is applied a b k = closes n e q c at is k (less_lively v n is (λ j there. ended_there v applied a b there))

    -- ---- a DR

    closes_by : (destination source reason : ℕ) (user : List ℕ) (b : Bool) →
        is_applied (finding (disconnect destination source reason user)) ≡ b → c.left.reference ≡ destination →
        IsPlain (course (disconnect destination source reason user)) →
        Came L (disconnect destination source reason user) s (one_told Right q c (disconnect destination source reason user) s).state
    closes_by destination source reason user false e is h = grind (arith, reached_plain, or_right, differ, or_left)
    closes_by destination source reason user true e is h =
        let v = disconnect destination source reason user in
        let so = reached_plain (how_far v) (course_after Right c v (is_applied (finding v)) s.course) h.strays in
        let stray = or_right (not (is_applied (finding v))) (is_stray Right c source)
        (or_right s.course.disconnects.strays (not (is_applied (finding v)) || is_stray Right c source) so) in
        let opened = not_not (is_open c.right.phase) (grind (arith, or_left)) in
        let first = or_right (not (source == c.right.reference)) (is_closing c.left.phase) (grind (arith, or_right)) in
        let mine = still_open c.left.phase c.right.phase started first sound.left_closed opened in
        closed_so v destination refl is e (grind arith)
        (closing_shuts (is_silent c.right.phase) c.right)
        (grind (arith, both, or_last))

    -- what breaks a rule, and is not passed over: the connection is not judged any more
    wrong_lost : (v : Value) (r : Rule) → finding v ≡ Broke r → passes_over r ≡ false → IsPlain (course v) → (after v).is_judged ≡ false
    wrong_lost v r e past h = grind (arith, calm_noted, calm_of, soft)

    -- ---- a DC

    -- it breaks a rule, and is not passed over
    abbrev IsBad : Finding → Type 0
    IsBad f = (r : Rule) × (f ≡ Broke r) × (passes_over r ≡ false)

    answers_by : (destination source : ℕ) → c.left.reference ≡ destination →
        (is_applied (finding (disconnected destination source)) ≡ true)
        ⊎ (IsBad (finding (disconnected destination source))) → IsPlain (course (disconnected destination source)) →
        Came L (disconnected destination source) s (one_told Right q c (disconnected destination source) s).state
    answers_by destination source is (inl e) h =
        closed_so (disconnected destination source) destination refl is e refl refl (λ dr. absurd dr)
    answers_by destination source is (inr (r, e, past)) h = search (arith, lost_closed, wrong_lost)

    dc_found : (destination source : ℕ) → (is_applied (finding (disconnected destination source)) ≡ true)
        ⊎ (IsBad (finding (disconnected destination source)))
    dc_found destination source = grind arith

    -- ---- an ER

    refuses_by : (destination cause : ℕ) → c.left.reference ≡ destination → (is_applied (finding (error destination cause)) ≡ true)
        ⊎ (finding (error destination cause) ≡ Broke rule.WrongForm) → IsPlain (course (error destination cause)) →
        Came L (error destination cause) s (one_told Right q c (error destination cause) s).state
    refuses_by destination cause is (inl e) h = closed_so (error destination cause) destination refl is e refl refl (λ dr. absurd dr)
    refuses_by destination cause is (inr e) h = search (arith, lost_closed, wrong_lost)

    er_found : (destination cause : ℕ) → (is_applied (finding (error destination cause)) ≡ true)
        ⊎ (finding (error destination cause) ≡ Broke rule.WrongForm)
    er_found destination cause = grind arith

    -- ---- any

    one_came : (v : Value) → ((n : ℕ) → shuts_of Left v ≡ Some n → c.left.reference ≡ n) → Told v
    one_came (confirm destination x) is h = stays refl (all_lively (confirm destination x) (confirms destination x))
    one_came (disconnect destination source reason user) is h =
        closes_by destination source reason user (is_applied (finding (disconnect destination source reason user))) refl
        (is destination refl) h
    one_came (disconnected destination source) is h = search (arith, answers_by, dc_found)
    one_came (error destination cause) is h = search (arith, refuses_by, er_found)
    one_came v is h = grind (arith, all_lively v (same_phase v refl), same_phase v refl)

-- ---- by the way that a unit takes

no_zero : (k : Option Class) → (k ≡ Some Zero → ⊥) → (k ≡ None) ⊎ (k ≡ Some Two)
no_zero k h = grind arith

closes_named : (v : Value) (n m : ℕ) → destination_of v ≡ Some n → shuts_of Left v ≡ Some m → n ≡ m
closes_named v n m e k = grind arith

-- what holds at the judge
pub record IsSane (s : State) : Type 0 where
  pub apart : AreApart s.connections
  pub judged : AreJudged s
  pub started : HoldsOfEach IsStarted s.connections
  pub distinct : AreDistinct s.connections

pub is_name : (c : Connection) (n : ℕ) → Sound c → is_named Right n c ≡ true → c.left.reference ≡ n
is_name c n sound h = grind (arith, eqb-true)

module _ (L : ℕ → Type 0) (s : State) (sane : IsSane s) (peers : AreNamedApart Right s.connections)
    (lively : HoldsOfEach (IsLively Left L) s.connections) (before : IsPlain s.course) (fine : s.course.left_erred ≡ false) where
  abbrev Comes : Value → Outcome → Type 0
  Comes v o = IsPlain o.state.course → Came L v s o.state

  one_by : (v : Value) (q : ℕ) (c : Connection) → slice_get s.connections q ≡ Some c →
      ((n : ℕ) → shuts_of Left v ≡ Some n → c.left.reference ≡ n) → (b : Bool) → c.is_judged ≡ b → Comes v (at_found Right v s q (Some c))
  one_by v q c at is true j h =
      one_came L s q c at (each_sound Right s.connections sane.apart peers q c at)
      (sane.started q c at) sane.distinct lively before.strays
      fine j v is h
  one_by v q c at is false j h =
      lost_came L s q c at (each_sound Right s.connections sane.apart peers q c at)
      (sane.started q c at) sane.distinct lively before.strays
      fine j v is h

  at_one : (v : Value) (q : ℕ) (c : Connection) → slice_get s.connections q ≡ Some c →
      ((n : ℕ) → shuts_of Left v ≡ Some n → is_named Right n c ≡ true) → Comes v (at_found Right v s q (Some c))
  at_one v q c at named =
      one_by v q c at (λ n e. is_name c n (each_sound Right s.connections sane.apart peers q c at) (named n e)) c.is_judged refl

  -- by what the rules take it for
  pub what_came : (v : Value) → IsPlain (takes Right v s).state.course → Came L v s (takes Right v s).state
  what_came v h = by (came_so Right v s (λ m cause e. fine) before.right (no_zero s.course.class before.two)
      (calm_of (takes Right v s).state.course h))
    where
      by : Passes Right v s (takes Right v s) → Came L v s (takes Right v s).state
      by (asks_so x left e kept is) = absurd (cc left)
      by (for_one n q c dest at named is) =
          subst (Comes v) (sym is)
          (at_one v q c at (λ m e. subst (λ (i : ℕ). is_named Right i c ≡ true) (closes_named v n m dest e) named)) h
      by (spared idle) = differ s.course.disconnects.strays
          (and_first s.course.disconnects.strays (knows_disconnect Right s.course.disconnects) idle.may) before.strays
