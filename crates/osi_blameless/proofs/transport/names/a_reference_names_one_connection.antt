-- A reference names one connection at most of those that are judged, whatever passes.
-- For the law of that name. By the way that a unit takes, as in a_unit_is_an_act_of_its_line.
use Rattle.osi_blameless.proofs.transport.Vocabulary.{arith, [], Bool, false, if◌then◌else◌, List, None, Option, option_map, refl, Some}
use Rattle.osi_blameless.proofs.transport.Vocabulary.{subst, sym, true}
use Rattle.osi_blameless.proofs.transport.Vocabulary.{ℕ, ◌^◌, ◌∙◌, ◌∷◌, ◌≡◌, eqb-true, list_any, nat_le, not, position, slice_get}
use Rattle.osi_blameless.proofs.transport.Vocabulary.{slice_set, ◌&&◌, ◌||◌}
use Rattle.osi_blameless.proofs.transport.Vocabulary.{confirm, Connect, disconnect, disconnected, error, request, Value, Class, is_applied}
use Rattle.osi_blameless.proofs.transport.Vocabulary.{reach_of}
use Rattle.osi_blameless.proofs.transport.Vocabulary.{code_named, first_failed, given_again, is_inside, is_offered, is_closing, is_named}
use Rattle.osi_blameless.proofs.transport.Vocabulary.{is_open, is_over}
use Rattle.osi_blameless.proofs.transport.Vocabulary.{is_over_by, is_refused, is_silent, seen, uses, asked_by, asks_by, asks_kept, asks_of}
use Rattle.osi_blameless.proofs.transport.Vocabulary.{at_found}
use Rattle.osi_blameless.proofs.transport.Vocabulary.{at_place, class_for, closing_phase, connection_after, found, found_on, fresh}
use Rattle.osi_blameless.proofs.transport.Vocabulary.{half_after, is_stopped}
use Rattle.osi_blameless.proofs.transport.Vocabulary.{judged_on, none_told, Outcome, request_tests, route, routed, sent_on}
use Rattle.osi_blameless.proofs.transport.Vocabulary.{Traffic as State, uses_source}
use Rattle.osi_blameless.proofs.transport.Vocabulary.{Connection, Course, Direction, Left, Right, Finding, Broke, Kept, NotJudged, Outside}
use Rattle.osi_blameless.proofs.transport.Vocabulary.{Reach, Half}
use Rattle.osi_blameless.proofs.transport.Vocabulary.{Closed, Refused, Route, Asks, Named, Only, Unnamed, all_passed, HoldsOfOne, packet}
use Rattle.osi_blameless.proofs.transport.Vocabulary.{passes, Passing}
use Rattle.osi_blameless.proofs.transport.Vocabulary.{rubbish, unit, ap, is_live}
use Rattle.osi_rules.specs.declared.findings.Reach.TheVariants as reach
use Rattle.osi_rules.specs.declared.findings.Rule.TheVariants as rule
use Rattle.osi_blameless.proofs.transport.small_facts_that_many_lemmas_use.{and_first, and_second, judged_same, or_first, or_last}
use Rattle.osi_blameless.proofs.transport.lines.what_is_right_passes_each_test.{passes_each}
use Rattle.osi_blameless.proofs.transport.names.what_holds_of_one_item.{first_true, none_true}
use Rattle.osi_blameless.proofs.transport.names.when_a_connection_has_a_name.{HalfMoves, earlier_same}
use Rattle.osi_blameless.proofs.transport.names.what_keeps_names_apart.{AreApart, Lessens, Sound, apart_add, apart_begins, apart_opens}
use Rattle.osi_blameless.proofs.transport.names.what_keeps_names_apart.{apart_put, apart_set}
use Rattle.osi_blameless.proofs.transport.names.what_keeps_names_apart.{lessens_on, right_lessens, same_lessens}
pub use Rattle.osi_blameless.proofs.transport.small_facts_that_many_lemmas_use.{differ}

-- ---- what a side has sent after a unit that has its effect

record Effect (mine seen after : Half) : Type 0 where
  moves : HalfMoves mine seen after
  silent : is_silent mine.phase ≡ true → (is_silent after.phase || is_refused after.phase) ≡ true

-- the phase and the reference stay
same_phase : (mine seen after : Half) → after.phase ≡ mine.phase → after.reference ≡ mine.reference → Effect mine seen after
same_phase mine seen after e r = search (arith, or_first)

closes_so : (mine seen : Half) (was : Bool) → is_silent mine.phase ≡ was → (is_silent mine.phase || is_open mine.phase) ≡ true →
    Effect mine seen (closing_phase was mine)
closes_so mine seen was e h = search (arith, differ)

answers_so : (mine seen : Half) (same : Bool) → (is_open mine.phase && (is_closing seen.phase && same)) ≡ true →
    Effect mine seen (record mine { phase = Closed })
answers_so mine seen same h = grind (arith, and_first, and_second, or_last)

refuses_so : (mine seen : Half) → is_silent mine.phase ≡ true → Effect mine seen (record mine { phase = Refused })
refuses_so mine seen h = search (arith, or_first)

-- ---- a unit that has its effect passed these tests

pub one_test : (b : Bool) → is_applied (first_failed ((b, Broke rule.Closed) ∷ [])) ≡ true → b ≡ true
one_test b h = grind arith

pub error_test : (b erred : Bool) →
    is_applied (first_failed ((b || not erred, NotJudged) ∷ (b, Broke rule.WrongForm) ∷ [])) ≡ true → b ≡ true
error_test b erred h = grind arith

pub due_test : (due told strays : Bool) →
    is_applied (first_failed ((due || not strays, NotJudged) ∷ (told, Broke rule.UnknownReference) ∷ (due, Broke rule.NothingToAnswer)
    ∷ [])) ≡ true →
    due ≡ true
due_test due told strays h = grind arith

pub confirm_test : (a b i u loose z : Bool) →
    is_applied (first_failed ((a, Broke rule.WrongForm) ∷ (b, Broke rule.BadAnswer) ∷ (i, Outside) ∷ (u, given_again loose)
    ∷ (z, Broke rule.LargerSize) ∷ [])) ≡ true →
    (a ≡ true) × (u ≡ true) × ((k : Option Class) →
    reach_of k (first_failed ((a, Broke rule.WrongForm) ∷ (b, Broke rule.BadAnswer) ∷ (i, Outside)
    ∷ (u, given_again loose) ∷ (z, Broke rule.LargerSize) ∷ [])) ≡ reach.Nothing)
confirm_test a b i u loose z h = grind arith

module _ (course : Course) (in_use : Bool) (c : Connection) where
  pub left_sent : (v : Value) → is_applied (found Left course in_use c v) ≡ true → c.is_judged ≡ true → Sound c →
      is_over_by c.left c.seen_by_left ≡ false → Lessens c (sent_on Left v c)
  left_sent (request x) h j s live = cc
  left_sent (confirm destination x) h j s live = cc
  left_sent v h j s live = grind arith

  -- a unit of right that is no CC
  pub right_goes : (v : Value) → ((m : ℕ) (x : Connect) → v ≡ confirm m x → ⊥) → is_applied (found Right course in_use c v) ≡ true →
      c.is_judged ≡ true → Sound c → is_over_by c.right c.seen_by_right ≡ false → Lessens c (sent_on Right v c)
  right_goes (request x) none h j s live = cc
  right_goes (confirm destination x) none h j s live = absurd (none destination x refl)
  right_goes v none h j s live = grind (arith, right_lessens)

  right_by : (v : Value) (cs : List Connection) (p : ℕ) (r : Reach) → AreApart cs → slice_get cs p ≡ Some c → c.is_judged ≡ true → Sound c →
      is_over_by c.right c.seen_by_right ≡ false → Effect c.right c.seen_by_right (half_after v c.right) →
      AreApart (slice_set cs p (judged_on r (record c { right = half_after v c.right })))
  right_by v cs p r a at j s live e = search (arith, right_lessens, apart_set, lessens_on)

pub not_true : (b : Bool) → not b ≡ true → b ≡ false
not_true b h = grind arith

-- a CC
right_opens : (s : State) (c : Connection) (destination : ℕ) (x : Connect) (p : ℕ) → AreApart s.connections →
    slice_get s.connections p ≡ Some c →
    Sound c → is_over_by c.right c.seen_by_right ≡ false → (r : Reach) →
    is_applied (found Right s.course (uses_source Right s.connections (confirm destination x)) c (confirm destination x)) ≡ true →
    reach_of (class_for Right s.course)
    (found Right s.course (uses_source Right s.connections (confirm destination x)) c (confirm destination x)) ≡ r →
    AreApart (slice_set s.connections p (judged_on r (sent_on Right (confirm destination x) c)))
right_opens s c destination x p a at sound live r h is =
    let in_use = list_any (λ e. uses Right x.source e) s.connections in
    let (silent, unused, nothing) = confirm_test (is_silent c.right.phase) (is_offered c.offer s.course.class x) (is_inside x) (not in_use)
    s.course.loose (nat_le (code_named x.parameters.size) c.offer.size_code) h in
    let none = not_true in_use unused in
    let after = half_after (confirm destination x) c.right in
    subst (λ (q : Reach). AreApart (slice_set s.connections p (judged_on q (sent_on Right (confirm destination x) c))))
    (sym (nothing (class_for Right s.course)) ∙ is)
    (apart_opens s.connections p c after (option_map (λ code. 2 ^ code) x.parameters.size) a at sound live
    (grind (arith, differ, or_first))
    (λ n i e there same.
    subst (λ (m : ℕ). uses Right m e ≡ false) (eqb-true x.source n same)
    (none_true (λ (z : Connection). uses Right x.source z) s.connections i e none there)))

right_sent : (v : Value) (s : State) (c : Connection) (p : ℕ) → AreApart s.connections → slice_get s.connections p ≡ Some c →
    c.is_judged ≡ true →
    Sound c → is_over_by c.right c.seen_by_right ≡ false → (r : Reach) →
    is_applied (found Right s.course (uses_source Right s.connections v) c v) ≡ true →
    reach_of (class_for Right s.course) (found Right s.course (uses_source Right s.connections v) c v) ≡ r →
    AreApart (slice_set s.connections p (judged_on r (sent_on Right v c)))
right_sent (confirm destination x) s c p a at j sound live r h is = right_opens s c destination x p a at sound live r h is
right_sent (request x) s c p a at j sound live r h is = cc
right_sent (disconnect destination source reason user) s c p a at j sound live r h is = search (arith, right_by, closes_so, one_test)
right_sent (disconnected destination source) s c p a at j sound live r h is = search (arith, right_by, answers_so, due_test)
right_sent (error destination cause) s c p a at j sound live r h is = search (arith, right_by, refuses_so, error_test)
right_sent v s c p a at j sound live r h is = search (arith, right_by, same_phase)

-- ---- a unit for a connection

pub applied_judged : (b : Bool) (g : Finding) → is_applied (if b then g else NotJudged) ≡ true → b ≡ true
applied_judged b g h = grind arith

pub applied_found : (b : Bool) (g : Finding) → is_applied (if b then g else NotJudged) ≡ true → is_applied g ≡ true
applied_found b g h = grind arith

applied_apart : (d : Direction) (v : Value) (s : State) (p : ℕ) (c : Connection) → AreApart s.connections →
    slice_get s.connections p ≡ Some c →
    is_over d c ≡ false → is_applied (found_on d s c v) ≡ true →
    AreApart (slice_set s.connections p (judged_on (reach_of (class_for d s.course) (found_on d s c v)) (sent_on d v c)))
applied_apart Left v s p c a at live h =
    let j = applied_judged c.is_judged (found Left s.course (uses_source Left s.connections v) c v) h in
    let f = applied_found c.is_judged (found Left s.course (uses_source Left s.connections v) c v) h in
    let how_far = reach_of (class_for Left s.course) (found_on Left s c v) in
    apart_set s.connections p c (judged_on how_far (sent_on Left v c)) a at
    (lessens_on how_far c (sent_on Left v c) (left_sent s.course (uses_source Left s.connections v) c v f j (a.sound p c at j)
    (grind arith)))
applied_apart Right v s p c a at live h =
    let j = applied_judged c.is_judged (found Right s.course (uses_source Right s.connections v) c v) h in
    let f = applied_found c.is_judged (found Right s.course (uses_source Right s.connections v) c v) h in
    let same = judged_same c.is_judged (found Right s.course (uses_source Right s.connections v) c v) j in
    right_sent v s c p a at j (a.sound p c at j) (grind arith)
    (reach_of (class_for Right s.course) (found_on Right s c v)) f
    (ap (λ (g : Finding). reach_of (class_for Right s.course) g) (sym same))

one_by : (applied : Bool) (d : Direction) (v : Value) (s : State) (p : ℕ) (c : Connection) → is_applied (found_on d s c v) ≡ applied →
    AreApart s.connections → slice_get s.connections p ≡ Some c → is_over d c ≡ false →
    AreApart (slice_set s.connections p (connection_after d v applied (reach_of (class_for d s.course) (found_on d s c v)) c))
one_by true d v s p c h a at live = applied_apart d v s p c a at live h
one_by false d v s p c h a at live =
    let how_far = reach_of (class_for d s.course) (found_on d s c v) in
    apart_set s.connections p c (judged_on how_far c) a at (lessens_on how_far c c (same_lessens c (a.sound p c at)))

abbrev Apart : Outcome → Type 0
Apart o = AreApart o.state.connections

at_one : (d : Direction) (v : Value) (s : State) (p : ℕ) (c : Option Connection) → slice_get s.connections p ≡ c →
    ((e : Connection) → slice_get s.connections p ≡ Some e → is_over d e ≡ false) → AreApart s.connections → Apart (at_found d v s p c)
at_one d v s p None at live a = a
at_one d v s p (Some c) at live a = one_by (is_applied (found_on d s c v)) d v s p c refl a at (live c at)

at_any : (d : Direction) (v : Value) (s : State) (p : Option ℕ) →
    ((i : ℕ) (e : Connection) → p ≡ Some i → slice_get s.connections i ≡ Some e → is_over d e ≡ false) → AreApart s.connections →
    Apart (at_place d v s p)
at_any d v s None live a = a
at_any d v s (Some p) live a = at_one d v s p (slice_get s.connections p) refl (λ e at. live p e refl at) a

-- ---- a CR

placed_apart : (c : Connect) (s : State) (p : Option ℕ) → list_any (λ e. uses Left c.source e) s.connections ≡ false →
    AreApart s.connections →
    Apart (asks_kept c s p)
placed_apart c s (Some p) none a = apart_put s.connections p (asked_by c) a (grind (arith, earlier_same, differ, eqb-true, none_true))
placed_apart c s None none a = apart_add s.connections (asked_by c) a (grind (arith, earlier_same, differ, eqb-true, none_true))

asking : (d : Direction) (f : Finding) (c : Connect) (s : State) → first_failed (request_tests s c) ≡ f → AreApart s.connections →
    Apart (asks_by d f c s)
asking d Kept c s e a = search (arith, placed_apart, not_true, passes_each (request_tests s c) refl e)
asking d _ c s e a = a

asks : (d : Direction) (v : Value) (s : State) → AreApart s.connections → Apart (asks_of d v s)
asks d (request c) s a = asking d (first_failed (request_tests s c)) c s refl a
asks d _ s a = a

-- ---- by route

pub not_first : (a b : Bool) → (not a && b) ≡ true → a ≡ false
not_first a b h = grind arith

by_route : (d : Direction) (v : Value) (s : State) (r : Route) → AreApart s.connections → Apart (routed d v s r)
by_route d v s Asks a = asks d v s a
by_route d v s (Named n) a = at_any d v s (position (is_named d n) s.connections)
    (grind (arith, not_first, first_true)) a
by_route d v s Only a = at_any d v s (position (is_live d) s.connections)
    (λ i e first at. not_true (is_over d e) (first_true (is_live d) s.connections i e first at)) a
by_route d v s (Unnamed finding) a = a

if_judged : (b : Bool) (d : Direction) (v : Value) (s : State) (r : Route) → AreApart s.connections →
    Apart (if b then none_told d NotJudged s else routed d v s r)
if_judged true d v s r a = a
if_judged false d v s r a = by_route d v s r a

pub passes_apart : (p : Passing) (s : State) → AreApart s.connections → AreApart (passes p s).connections
passes_apart (packet d) s a = apart_begins d s.connections a
passes_apart (unit d v) s a = if_judged (is_stopped d s.course) d v s (route d s.course v) a
passes_apart (rubbish d) s a = a

pub all_apart : (ps : List Passing) (s : State) → AreApart s.connections → AreApart (all_passed ps s).connections
all_apart [] s a = a
all_apart (p ∷ ps) s a = all_apart ps (passes p s) (passes_apart p s a)

pub no_item : {A : Type 0} (i : ℕ) (c : Connection) → slice_get [] i ≡ Some c → A
no_item i c h = absurd (cc)

pub fresh_apart : AreApart fresh.connections
fresh_apart = search (arith, no_item)

pub names_one : (ps : List Passing) (d : Direction) (n : ℕ) → HoldsOfOne (is_named d n) (all_passed ps fresh).connections
names_one ps Left n = (all_apart ps fresh fresh_apart).named_left n
names_one ps Right n = (all_apart ps fresh fresh_apart).named_right n

pub is_of_one : (ps : List Passing) (d : Direction) (n : ℕ) → HoldsOfOne (uses d n) (all_passed ps fresh).connections
is_of_one ps Left n = (all_apart ps fresh fresh_apart).used_left n
is_of_one ps Right n = (all_apart ps fresh fresh_apart).used_right n
