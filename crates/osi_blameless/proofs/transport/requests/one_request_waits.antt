-- Until class 2 is selected, one connection at most is not over for left: that of the CR which waits for its answer, or the one of class 0.
-- For the law of that name, and for the session of the connection of an end in class 0.
use Rattle.osi_blameless.proofs.transport.Vocabulary.{Class, Two, Zero, is_applied, first_failed, begins, is_closed, is_closing, is_live}
use Rattle.osi_blameless.proofs.transport.Vocabulary.{is_named}
use Rattle.osi_blameless.proofs.transport.Vocabulary.{Direction, Left}
use Rattle.osi_blameless.proofs.transport.Vocabulary.{Finding, Kept, Reach, all_passed, HoldsOfOne}
use Rattle.osi_blameless.proofs.transport.Vocabulary.{packet, passes, Passing, rubbish, unit, noted, arith}
use Rattle.osi_blameless.proofs.transport.Vocabulary.{Course, Broke, Half, Phase}
use Rattle.osi_blameless.proofs.transport.Vocabulary.{[], ap, Bool, false, inl, inr, is_some, List, None, not, Option, refl, set, Some, suc}
use Rattle.osi_blameless.proofs.transport.Vocabulary.{sym}
use Rattle.osi_blameless.proofs.transport.Vocabulary.{true}
use Rattle.osi_blameless.proofs.transport.Vocabulary.{asks_kept}
use Rattle.osi_blameless.proofs.transport.Vocabulary.{at_place, connection_after, course_after, found_on, fresh}
use Rattle.osi_blameless.proofs.transport.Vocabulary.{found, judged_on, none_told, request_tests}
use Rattle.osi_blameless.proofs.transport.Vocabulary.{is_open, is_over, is_over_by, is_refused, is_silent, asked_by, asks_by, at_found}
use Rattle.osi_blameless.proofs.transport.Vocabulary.{reached, routed, Traffic as State, unnamed_told, Connection}
use Rattle.osi_blameless.proofs.transport.Vocabulary.{route_in, sent_on, takes, uses_source}
use Rattle.osi_blameless.proofs.transport.Vocabulary.{slice_get, ◌||◌, confirm, Connect, data0, disconnect, disconnected, error, request}
use Rattle.osi_blameless.proofs.transport.Vocabulary.{Value}
use Rattle.osi_blameless.proofs.transport.Vocabulary.{zero, ℕ, ◌&&◌, ◌==◌, ◌∙◌, ◌∷◌, ◌≡◌, ◌⊎◌, eqb-true, slice_get-map, list_all, position}
use Rattle.osi_blameless.proofs.transport.lines.what_is_right_passes_each_test.{passes_each}
use Rattle.osi_blameless.proofs.transport.names.a_reference_names_one_connection.{due_test}
use Rattle.osi_blameless.proofs.transport.names.a_reference_names_one_connection.{error_test}
use Rattle.osi_blameless.proofs.transport.names.a_reference_names_one_connection.{fresh_apart, no_item, not_first, not_true, passes_apart}
use Rattle.osi_blameless.proofs.transport.names.a_reference_names_one_connection.{one_test}
use Rattle.osi_blameless.proofs.transport.names.what_holds_of_one_item.{first_true, one_added, one_changed, one_mapped, one_put}
use Rattle.osi_blameless.proofs.transport.names.what_keeps_names_apart.{AreApart}
use Rattle.osi_blameless.proofs.transport.names.when_a_connection_has_a_name.{IsEarlier}
use Rattle.osi_blameless.proofs.transport.small_facts_that_many_lemmas_use.{and_first as both_first}
use Rattle.osi_blameless.proofs.transport.small_facts_that_many_lemmas_use.{and_first, and_second, differ}
use Rattle.osi_blameless.proofs.transport.small_facts_that_many_lemmas_use.{open_or_closing as open_closing}
use Rattle.osi_rules.specs.declared.directions.Direction.TheVariants.{Right}
use Rattle.osi_rules.specs.declared.findings.Rule.TheVariants as rule
use Rattle.osi_blameless.proofs.transport.small_facts_that_many_lemmas_use.{set_there, unlike}
use Rattle.osi_blameless.proofs.transport.requests.what_lasts_at_the_judge.{lasts_passing}
use Rattle.osi_blameless.proofs.transport.names.what_keeps_names_apart.{Sound}
use Rattle.osi_blameless.proofs.transport.names.what_holds_of_one_item.{each_set}
use Rattle.osi_blameless.proofs.transport.names.what_holds_of_one_item.{each_map}
use Rattle.osi_blameless.proofs.transport.names.what_holds_of_one_item.{each_add}
use Rattle.osi_blameless.proofs.transport.names.what_holds_of_one_item.{HoldsOfEach}
use Rattle.osi_blameless.proofs.transport.names.a_reference_names_one_connection.{applied_judged}
use Rattle.osi_blameless.proofs.transport.names.a_reference_names_one_connection.{applied_found}
use Rattle.osi_blameless.proofs.transport.small_facts_that_many_lemmas_use.{begun_right}
use Rattle.osi_blameless.proofs.transport.small_facts_that_many_lemmas_use.{begun_left}
use Rattle.osi_blameless.proofs.transport.names.what_a_side_knows_stays.{same_item}

-- ---- small facts

pub reached_class : (d : Direction) (r : Reach) (c : Course) → (reached d r c).class ≡ c.class
reached_class d r c = grind arith

pub begun_live : (b : Direction) (c : Connection) → IsEarlier c.seen_by_left c.right → (begins b c).is_judged ≡ true →
    is_live Left (begins b c) ≡ true → (c.is_judged ≡ true) × (is_live Left c ≡ true)
begun_live b c e j h = grind arith

abbrev pub WasLive : Connection → Connection → Type 0
WasLive c e = e.is_judged ≡ true → is_live Left e ≡ true → (c.is_judged ≡ true) × (is_live Left c ≡ true)

pub all_so : (f : Connection → Bool) (cs : List Connection) (i : ℕ) (c : Connection) → list_all f cs ≡ true → slice_get cs i ≡ Some c →
    f c ≡ true
all_so f [] i c h at = no_item i c at
all_so f (x ∷ xs) zero c h at = ap f (grind arith) ∙ and_first (f x) (list_all f xs) h
all_so f (x ∷ xs) (suc i) c h at = all_so f xs i c (and_second (f x) (list_all f xs) h) at

pub none_waits : (cs : List Connection) (i : ℕ) (e : Connection) → list_all (is_over Left) cs ≡ true → slice_get cs i ≡ Some e →
    is_live Left e ≡ true → ⊥
none_waits cs i e all at live = differ (is_over Left e) (all_so (is_over Left) cs i e all at) (not_true (is_over Left e) live)

pub unknown_all : (k : Option Class) (all : Bool) → k ≡ None → (is_some k || all) ≡ true → all ≡ true
unknown_all k all e h = grind arith

pub open_not_refused : (p : Phase) → is_open p ≡ true → is_refused p ≡ true → ⊥
open_not_refused p h k = grind arith

-- ---- what holds until class 2 is selected

-- a CR waits, is refused, or has its CC
pub record IsAnswer (p : Phase) : Type 0 where
  pub closing : is_closing p ≡ false
  pub closed : is_closed p ≡ false

pub record IsOpened (cs : List Connection) : Type 0 where
  pub place : ℕ
  pub connection : Connection
  pub there : slice_get cs place ≡ Some connection
  pub live : is_open connection.right.phase ≡ true

-- Left has closed no connection, and right none that it has opened. One at most is not over for left. As soon as class 0 is selected,
-- one is opened, and before that none is.
pub record Narrow (s : State) : Type 0 where
  pub known : s.course.class_seen ≡ Some Two → ⊥
  pub asked : HoldsOfEach (λ (c : Connection). is_open c.left.phase ≡ true) s.connections
  pub answered : HoldsOfEach (λ (c : Connection). IsAnswer c.right.phase) s.connections
  pub one : HoldsOfOne (is_live Left) s.connections
  pub none : s.course.class ≡ None → HoldsOfEach (λ (c : Connection). is_open c.right.phase ≡ false) s.connections
  pub opened : s.course.class ≡ Some Zero → IsOpened s.connections

abbrev pub NarrowIf : State → Type 0
NarrowIf s = (s.course.class ≡ Some Two → ⊥) → Narrow s

-- ---- what it says in class 0

over_so : (j : Bool) (p k : Phase) → is_open p ≡ true →
    (j && (is_refused p || (is_refused k || (is_closed p || (is_closing p && (is_closing k || is_closed k)))))) ≡ true → is_refused k ≡ true
over_so j p k h e = grind arith

pub not_over : (b : Bool) → (b ≡ true → ⊥) → not b ≡ true
not_over b h = grind arith

-- what is over for left was refused by right
pub refused_so : (cs : List Connection) (i : ℕ) (c : Connection) → AreApart cs → slice_get cs i ≡ Some c → is_open c.left.phase ≡ true →
    is_over Left c ≡ true → (is_refused c.seen_by_left.phase ≡ true) × (is_refused c.right.phase ≡ true)
refused_so cs i c apart there up over =
    let judged = both_first c.is_judged (is_over_by c.left c.seen_by_left) over in
    let known = over_so c.is_judged c.left.phase c.seen_by_left.phase up over in
    (known, (apart.sound i c there judged).left_knows.refused known)

-- so what right has opened is not over for left
pub opened_live : (cs : List Connection) (i : ℕ) (c : Connection) → AreApart cs → slice_get cs i ≡ Some c → is_open c.left.phase ≡ true →
    is_open c.right.phase ≡ true → is_over Left c ≡ true → ⊥
opened_live cs i c apart there up live over = grind (arith, refused_so, open_not_refused)

-- ---- what is of no single connection

pub reached_seen : (d : Direction) (r : Reach) (c : Course) → (reached d r c).class_seen ≡ c.class_seen
reached_seen d r c = grind arith

pub after_seen : (d : Direction) (c : Connection) (v : Value) (x : Bool) (course : Course) →
    (course_after d c v x course).class_seen ≡ course.class_seen
after_seen d c v x course = grind arith

after_false : (d : Direction) (c : Connection) (v : Value) (course : Course) → (course_after d c v false course).class ≡ course.class
after_false d c v course = grind arith

none_narrow : (d : Direction) (f : Finding) (s : State) → Narrow s → Narrow (none_told d f s).state
none_narrow d f s n = grind (arith, reached_class, reached_seen)

unnamed_narrow : (d : Direction) (v : Value) (s : State) → Narrow s → Narrow (unnamed_told d v s).state
unnamed_narrow d v s n = search (arith, none_narrow)

-- ---- one connection changes

pub set_other : (cs : List Connection) (p q : ℕ) (x : Connection) → (q ≡ p → ⊥) → slice_get (set cs p x) q ≡ slice_get cs q
set_other [] p q x h = refl
set_other (z ∷ cs) zero zero x h = absurd (h refl)
set_other (z ∷ cs) zero (suc q) x h = refl
set_other (z ∷ cs) (suc p) zero x h = refl
set_other (z ∷ cs) (suc p) (suc q) x h = set_other cs p q x (λ e. h (ap suc e))

-- what a change of a connection keeps
record Fits (s : State) (course : Course) (c new : Connection) : Type 0 where
  up : is_open new.left.phase ≡ true
  answers : IsAnswer new.right.phase
  live : WasLive c new
  none : course.class ≡ None → (s.course.class ≡ None) × (is_open new.right.phase ≡ false)
  zero : course.class ≡ Some Zero →
      (is_open new.right.phase ≡ true) ⊎ ((s.course.class ≡ Some Zero) × (is_open new.right.phase ≡ is_open c.right.phase))

module _ (s : State) (p : ℕ) (c new : Connection) (course : Course) (there : slice_get s.connections p ≡ Some c)
    (seen : course.class_seen ≡ s.course.class_seen) (f : Fits s course c new) (n : Narrow s) where
  opened_by : (b : Bool) (o : IsOpened s.connections) → (o.place == p) ≡ b → is_open new.right.phase ≡ is_open c.right.phase →
      IsOpened (set s.connections p new)
  opened_by true o e same = grind (arith, same_item, set_there s.connections p new c there, eqb-true o.place p e)
  opened_by false o e same = grind (arith, set_other s.connections p o.place new (unlike o.place p e), unlike o.place p e)

  opened_so : (is_open new.right.phase ≡ true) ⊎ ((s.course.class ≡ Some Zero) × (is_open new.right.phase ≡ is_open c.right.phase)) →
      IsOpened (set s.connections p new)
  opened_so (inl live) = record { place = p; connection = new; there = set_there s.connections p new c there; live = live }
  opened_so (inr (class, same)) = let o = n.opened class in opened_by (o.place == p) o refl same

  changed_narrow : Narrow (record { connections = set s.connections p new; course = course })
  changed_narrow = record {
    known = λ h. n.known (sym seen ∙ h);
    asked = each_set (λ (x : Connection). is_open x.left.phase ≡ true) s.connections p new n.asked f.up;
    answered = each_set (λ (x : Connection). IsAnswer x.right.phase) s.connections p new n.answered f.answers;
    one = one_changed (is_live Left) s.connections p new c n.one there f.live;
    none = λ h. let (class, closed) = f.none h in
        each_set (λ (x : Connection). is_open x.right.phase ≡ false) s.connections p new (n.none class) closed;
    opened = λ h. opened_so (f.zero h);
  }

-- ---- a unit for a connection

judged_fits : (s : State) (course : Course) (c new : Connection) (r : Reach) → Fits s course c new → Fits s course c (judged_on r new)
judged_fits s course c new r f = grind arith

-- which units may be for a connection: a DR of right, while no class is selected
abbrev IsRefusal : Direction → State → Type 0
IsRefusal Left s = ⊥
IsRefusal Right s = s.course.class ≡ None

abbrev MayBe : Value → Direction → State → Type 0
MayBe (disconnect destination source reason user) d s = IsRefusal d s
MayBe _ d s = Unit {0}

due_closing : (a b c : Bool) → (a && (b && c)) ≡ true → b ≡ true
due_closing a b c h = grind arith

open_silent : (p : Phase) → is_open p ≡ true → is_silent p ≡ true → ⊥
open_silent p h k = grind arith

silent_closed : (p : Phase) → is_silent p ≡ true → is_open p ≡ false
silent_closed p h = grind arith

or_not : (a b : Bool) → (a || b) ≡ true → b ≡ false → a ≡ true
or_not a b h k = grind (arith, differ)

module _ (s : State) (c : Connection) (in_use : Bool) (up : is_open c.left.phase ≡ true) (answers : IsAnswer c.right.phase)
    (sound : Sound c) (none : s.course.class ≡ None → is_open c.right.phase ≡ false) where
  -- ---- of left

  left_fits : (v : Value) → MayBe v Left s → is_over Left c ≡ false → is_applied (found Left s.course in_use c v) ≡ true →
      Fits s (course_after Left c v true s.course) c (sent_on Left v c)
  left_fits v may live h = grind (arith, due_test, due_closing, differ, open_silent, error_test)

  -- ---- of right

  right_fits : (v : Value) → MayBe v Right s → is_applied (found Right s.course in_use c v) ≡ true →
      Fits s (course_after Right c v true s.course) c (sent_on Right v c)
  right_fits (request x) may h = absurd (cc)
  right_fits (confirm destination x) may h = grind arith
  right_fits (disconnect destination source reason user) may h = grind (arith, or_not, one_test)
  right_fits (disconnected destination source) may h = grind (arith, due_test, due_closing, open_closing)
  right_fits (error destination cause) may h = grind (arith, silent_closed, error_test)
  right_fits v may h = grind arith

  both_fits : (d : Direction) (v : Value) → MayBe v d s → is_over d c ≡ false → is_applied (found d s.course in_use c v) ≡ true →
      Fits s (course_after d c v true s.course) c (sent_on d v c)
  both_fits d v may live h = grind (arith, left_fits, right_fits)

-- what stays of a connection
same_fits : (s : State) (course : Course) (c : Connection) → course.class ≡ s.course.class → is_open c.left.phase ≡ true →
    IsAnswer c.right.phase → (s.course.class ≡ None → is_open c.right.phase ≡ false) → Fits s course c c
same_fits s course c class up answers none = grind arith

-- ---- by the way that a unit takes

class_reached : (s : State) (d : Direction) (r : Reach) (course : Course) (c new : Connection) → Fits s course c new →
    (finding : Finding) → Fits s (noted d finding (reached d r course)) c new
class_reached s d r course c new f finding = grind (arith, reached_class)

module _ (d : Direction) (v : Value) (s : State) (apart : AreApart s.connections) (n : Narrow s) (may : MayBe v d s) where
  one_by : (x : Bool) (p : ℕ) (c : Connection) (r : Reach) → slice_get s.connections p ≡ Some c → is_over d c ≡ false →
      is_applied (found_on d s c v) ≡ x →
      Narrow (record {
        connections = set s.connections p (connection_after d v x r c);
        course = noted d (found_on d s c v) (reached d r (course_after d c v x s.course));
      })
  one_by true p c r there live e =
      let judged = applied_judged c.is_judged (found d s.course (uses_source d s.connections v) c v) e in
      let course = course_after d c v true s.course in
      changed_narrow s p c (judged_on r (sent_on d v c)) (noted d (found_on d s c v) (reached d r course)) there
      (reached_seen d r course ∙ after_seen d c v true s.course)
      (class_reached s d r course c (judged_on r (sent_on d v c)) (judged_fits s course c (sent_on d v c) r
      (both_fits s c (uses_source d s.connections v) (n.asked p c there) (n.answered p c there) (apart.sound p c there judged)
      (λ h. n.none h p c there) d v may live
      (applied_found c.is_judged (found d s.course (uses_source d s.connections v) c v) e))) (found_on d s c v)) n
  one_by false p c r there live e =
      let course = course_after d c v false s.course in
      changed_narrow s p c (judged_on r c) (noted d (found_on d s c v) (reached d r course)) there
      (reached_seen d r course ∙ after_seen d c v false s.course)
      (class_reached s d r course c (judged_on r c) (judged_fits s course c c r
      (same_fits s course c (after_false d c v s.course) (n.asked p c there) (n.answered p c there) (λ h. n.none h p c there)))
      (found_on d s c v)) n

  found_narrow : (p : ℕ) (o : Option Connection) → slice_get s.connections p ≡ o →
      ((e : Connection) → slice_get s.connections p ≡ Some e → is_over d e ≡ false) → Narrow (at_found d v s p o).state
  found_narrow p None there live = unnamed_narrow d v s n
  found_narrow p (Some c) there live = search (arith, one_by)

  place_narrow : (o : Option ℕ) → ((i : ℕ) (e : Connection) → o ≡ Some i → slice_get s.connections i ≡ Some e → is_over d e ≡ false) →
      Narrow (at_place d v s o).state
  place_narrow o live = grind (arith, unnamed_narrow, found_narrow)

  named_narrow : (number : ℕ) → Narrow (at_place d v s (position (is_named d number) s.connections)).state
  named_narrow number =
      place_narrow (position (is_named d number) s.connections)
      (search (arith, not_first, first_true))

  only_narrow : Narrow (at_place d v s (position (is_live d) s.connections)).state
  only_narrow =
      place_narrow (position (is_live d) s.connections)
      (λ i e first at. not_true (is_over d e) (first_true (is_live d) s.connections i e first at))

-- ---- a CR

module _ (x : Connect) (s : State) (apart : AreApart s.connections) (n : Narrow s) (unknown : s.course.class_seen ≡ None)
    (all : list_all (is_over Left) s.connections ≡ true) where
  -- class 0 is not selected yet
  not_opened : {A : Type 0} → s.course.class ≡ Some Zero → A
  not_opened class =
      let o = n.opened class in
      absurd (opened_live s.connections o.place o.connection apart o.there (n.asked o.place o.connection o.there) o.live
      (all_so (is_over Left) s.connections o.place o.connection all o.there))

  kept_narrow : (p : Option ℕ) → Narrow (asks_kept x s p).state
  kept_narrow (Some p) = record {
    known = n.known;
    asked = each_set (λ (c : Connection). is_open c.left.phase ≡ true) s.connections p (asked_by x) n.asked refl;
    answered = search (arith, each_set);
    one = one_put (is_live Left) s.connections p (asked_by x) n.one (λ i e at j f k h. none_waits s.connections i e all at f);
    none = λ h. each_set (λ (c : Connection). is_open c.right.phase ≡ false) s.connections p (asked_by x) (n.none h) refl;
    opened = λ h. not_opened h;
  }
  kept_narrow None = record {
    known = n.known;
    asked = each_add (λ (c : Connection). is_open c.left.phase ≡ true) s.connections (asked_by x) n.asked refl;
    answered = search (arith, each_add);
    one = one_added (is_live Left) s.connections (asked_by x) n.one (λ i e at j f k h. none_waits s.connections i e all at f);
    none = λ h. each_add (λ (c : Connection). is_open c.right.phase ≡ false) s.connections (asked_by x) (n.none h) refl;
    opened = λ h. not_opened h;
  }

asks_narrow : (f : Finding) (x : Connect) (s : State) → first_failed (request_tests s x) ≡ f → AreApart s.connections → Narrow s →
    s.course.class_seen ≡ None → Narrow (asks_by Left f x s).state
asks_narrow Kept x s e apart n unknown = search (arith, kept_narrow, unknown_all, passes_each (request_tests s x) refl e)
asks_narrow v x s e apart n unknown = none_narrow Left v s n

-- ---- a unit passes

module _ (s : State) (apart : AreApart s.connections) (n : Narrow s) where
  left_routed : (k : Option Class) (b : Bool) (v : Value) → s.course.class_seen ≡ k → Narrow (routed Left v s (route_in k Left b v)).state
  left_routed (Some Two) b v e = absurd (n.known e)
  left_routed None b (request x) e = asks_narrow (first_failed (request_tests s x)) x s refl apart n e
  left_routed None b (disconnected destination source) e = named_narrow Left (disconnected destination source) s apart n tt destination
  left_routed None b _ e = none_narrow Left (Broke rule.UnexpectedUnit) s n
  left_routed (Some Zero) b (request x) e = none_narrow Left (Broke rule.OneConnection) s n
  left_routed (Some Zero) b (data0 end user) e = only_narrow Left (data0 end user) s apart n tt
  left_routed (Some Zero) b (disconnected destination source) e = grind (arith, named_narrow)
  left_routed (Some Zero) true (error destination cause) e = none_narrow Left Kept s n
  left_routed (Some Zero) false (error destination cause) e = none_narrow Left (Broke rule.WrongForm) s n
  left_routed (Some Zero) b _ e = none_narrow Left (Broke rule.WrongForm) s n

  right_routed : (k : Option Class) (b : Bool) (v : Value) → s.course.class ≡ k → (k ≡ Some Two → ⊥) →
      Narrow (routed Right v s (route_in k Right b v)).state
  right_routed (Some Two) b v e not_two = absurd (not_two refl)
  right_routed None b (confirm destination x) e not_two = named_narrow Right (confirm destination x) s apart n tt destination
  right_routed None b (disconnect destination source reason user) e not_two = grind (arith, named_narrow)
  right_routed None b (disconnected destination source) e not_two = grind (arith, named_narrow)
  right_routed None b (error destination cause) e not_two = named_narrow Right (error destination cause) s apart n tt destination
  right_routed None b _ e not_two = none_narrow Right (Broke rule.UnexpectedUnit) s n
  right_routed (Some Zero) b (request x) e not_two = none_narrow Right (Broke rule.UnexpectedUnit) s n
  right_routed (Some Zero) b (data0 end user) e not_two = only_narrow Right (data0 end user) s apart n tt
  right_routed (Some Zero) b (disconnected destination source) e not_two = grind (arith, named_narrow)
  right_routed (Some Zero) true (error destination cause) e not_two = none_narrow Right Kept s n
  right_routed (Some Zero) false (error destination cause) e not_two = none_narrow Right (Broke rule.WrongForm) s n
  right_routed (Some Zero) b _ e not_two = none_narrow Right (Broke rule.WrongForm) s n

  unit_narrow : (d : Direction) (v : Value) → (s.course.class ≡ Some Two → ⊥) → Narrow (takes d v s).state
  unit_narrow Left v not_two = grind (arith, left_routed)
  unit_narrow Right v not_two = grind (arith, right_routed)

-- ---- a packet begins

begins_narrow : (d : Direction) (s : State) → AreApart s.connections → (s.course.class ≡ Some Two → ⊥) → Narrow s →
    Narrow (passes (packet d) s)
begins_narrow d s apart not_two n = record {
  known = grind arith;
  asked = search (arith, each_map, begun_left);
  answered = search (arith, each_map, begun_right);
  one = one_mapped (is_live Left) (is_live Left) (begins d) s.connections n.one
      (λ i c at j k. begun_live d c (apart.sound i c at (grind arith)).left_knows j k);
  none = λ h. each_map (λ (c : Connection). is_open c.right.phase ≡ false) (begins d) s.connections
      (n.none (sym (grind arith) ∙ h))
      (λ c k. ap (λ (x : Half). is_open x.phase) (begun_right d c) ∙ k);
  opened = λ h. let o = n.opened (sym (grind arith) ∙ h) in grind (
    arith,
    slice_get-map (begins d) s.connections o.place,
    begun_right d o.connection,
  );
}

-- ---- whatever passes

passing_narrow : (p : Passing) (s : State) → AreApart s.connections → (s.course.class ≡ Some Two → ⊥) → Narrow s → Narrow (passes p s)
passing_narrow (packet d) s apart not_two n = begins_narrow d s apart not_two n
passing_narrow (unit d v) s apart not_two n = unit_narrow s apart n d v not_two
passing_narrow (rubbish d) s apart not_two n = grind (arith, reached_class, reached_seen)

pub still_narrow : (p : Passing) (s : State) → AreApart s.connections → NarrowIf s → NarrowIf (passes p s)
still_narrow p s apart n not_two =
    let before : s.course.class ≡ Some Two → ⊥ = λ h. not_two ((lasts_passing p s).two h) in
    passing_narrow p s apart before (n before)

-- ---- whatever has passed

all_narrow : (ps : List Passing) (s : State) → AreApart s.connections → NarrowIf s → NarrowIf (all_passed ps s)
all_narrow [] s apart n = n
all_narrow (p ∷ ps) s apart n = all_narrow ps (passes p s) (passes_apart p s apart) (still_narrow p s apart n)

pub fresh_narrow : NarrowIf fresh
fresh_narrow not_two = record {
  known = λ e. absurd (cc e);
  asked = λ i c at. no_item i c at;
  answered = λ i c at. no_item i c at;
  one = λ i j c e at. no_item i c at;
  none = λ e i c at. no_item i c at;
  opened = λ e. absurd (cc e);
}

pub one_waits : (ps : List Passing) → (all_passed ps fresh).course.class ≡ None →
    HoldsOfOne (is_live Left) (all_passed ps fresh).connections
one_waits ps none = (all_narrow ps fresh fresh_apart fresh_narrow (λ two. absurd (cc (sym none ∙ two)))).one
