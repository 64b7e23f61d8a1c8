-- Which unit of the other side passes at the judge of an end, if both sides are still judged after it: a CR that is right, a unit for a
-- connection, or a DC that answers nothing. For the laws on whole ends.
use Rattle.osi_blameless.proofs.transport.Vocabulary.{[], acknowledge, ap, arith, Asks, asks_by, asks_kept, asks_of, at_found, at_place}
use Rattle.osi_blameless.proofs.transport.Vocabulary.{Bool, Broke}
use Rattle.osi_blameless.proofs.transport.Vocabulary.{Class, class_for, confirm, Connect, Connection, Course, data0, data2, destination_of}
use Rattle.osi_blameless.proofs.transport.Vocabulary.{Direction}
use Rattle.osi_blameless.proofs.transport.Vocabulary.{disconnect, disconnected, error, false, Finding, first_failed, has_broken, has_erred}
use Rattle.osi_blameless.proofs.transport.Vocabulary.{if◌then◌else◌}
use Rattle.osi_blameless.proofs.transport.Vocabulary.{inl, inr, is_free, is_named, is_of_connection, is_stopped, Kept, Left, may_answer}
use Rattle.osi_blameless.proofs.transport.Vocabulary.{Named, None}
use Rattle.osi_blameless.proofs.transport.Vocabulary.{none_told, NotJudged, one_told, Option, other, Outcome, passes_over, position}
use Rattle.osi_blameless.proofs.transport.Vocabulary.{reach_by, reach_of}
use Rattle.osi_blameless.proofs.transport.Vocabulary.{reached, refl, request, request_tests, Right, Route, route, route_in, routed, Rule}
use Rattle.osi_blameless.proofs.transport.Vocabulary.{slice_get, Some}
use Rattle.osi_blameless.proofs.transport.Vocabulary.{subst, sym, takes, TooMany, Traffic, true, Two, Unnamed, unnamed_told, Value, ℕ, ◌∷◌}
use Rattle.osi_blameless.proofs.transport.Vocabulary.{◌≡◌, ◌⊎◌}
use Rattle.osi_rules.specs.Traffic.{route_before, route_two}
use Rattle.osi_rules.specs.declared.findings.Reach.TheVariants as reach
use Rattle.osi_rules.specs.declared.findings.Rule.TheVariants as rule
use Rattle.osi_blameless.proofs.transport.small_facts_that_many_lemmas_use.{differ}
use Rattle.osi_blameless.proofs.transport.lines.a_unit_is_an_act_of_its_line.{route_is}
use Rattle.osi_blameless.proofs.transport.names.what_holds_of_one_item.{first_true}
pub use Rattle.osi_blameless.proofs.transport.requests.what_lasts_at_the_judge.{IsCalm, calm_before, calm_noted}

-- ---- what is wrong is not calm

pub by_reach : {A : Type 0} (e : Direction) (k : Option Class) (c : Course) → IsCalm (reached e (reach_by k false) c) → A
by_reach Left k c h = grind (arith, differ)
by_reach Right k c h = grind (arith, differ)

-- a break that is not of one connection, and that no taker passes over
pub not_calm : {A : Type 0} (e : Direction) (k : Option Class) (r : Rule) (c : Course) → passes_over r ≡ false →
    is_of_connection r ≡ false → IsCalm (reached e (reach_of k (Broke r)) c) → A
not_calm e k r c past hard h = grind (arith, differ, by_reach)

-- How far a unit of left reaches is known then: as in class 2, and not to all.
pub record IsNear (k : Option Class) (f : Finding) : Type 0 where
  pub two : reach_of k f ≡ reach_of (Some Two) f
  pub part : reach_of (Some Two) f ≡ reach.Everything → ⊥

pub calm_near : (k : Option Class) (f : Finding) (c : Course) → IsCalm (reached Left (reach_of k f) c) → IsNear k f
calm_near k f c h = search (arith, differ)

-- ---- which unit it is

-- a DC that is not judged, which leaves what has passed as it is
pub record IsIdle (e : Direction) (v : Value) (s : Traffic) (o : Outcome) : Type 0 where
  pub m : ℕ
  pub source : ℕ
  pub dc : v ≡ disconnected m source
  pub may : may_answer e s.course.disconnects ≡ true
  pub same : o.state ≡ s

pub data Came (e : Direction) (v : Value) (s : Traffic) (o : Outcome) : Type 0 where
  asks_so : (x : Connect) → e ≡ Left → v ≡ request x → first_failed (request_tests s x) ≡ Kept →
      o ≡ asks_kept x s (position is_free s.connections) → Came e v s o
  for_one : (n q : ℕ) (c : Connection) → destination_of v ≡ Some n → slice_get s.connections q ≡ Some c → is_named e n c ≡ true →
      o ≡ one_told e q c v s → Came e v s o
  lost : IsIdle e v s o → Came e v s o

-- ---- its way, unless class 0 is known

data Way (e : Direction) (v : Value) (r : Route) : Type 0 where
  asks : (x : Connect) → e ≡ Left → v ≡ request x → r ≡ Asks → Way e v r
  names : (n : ℕ) → destination_of v ≡ Some n → r ≡ Named n → Way e v r
  wrong : (q : Rule) → passes_over q ≡ false → is_of_connection q ≡ false → r ≡ Unnamed (Broke q) → Way e v r

way_before : (e : Direction) (v : Value) → Way e v (route_before e v)
way_before Left (request x) = asks x refl refl refl
way_before Left (disconnected n source) = names n refl refl
way_before Left _ = wrong rule.UnexpectedUnit refl refl refl
way_before Right (confirm n x) = names n refl refl
way_before Right (disconnect n source reason user) = names n refl refl
way_before Right (disconnected n source) = names n refl refl
way_before Right (error n cause) = names n refl refl
way_before Right _ = wrong rule.UnexpectedUnit refl refl refl

way_two : (e : Direction) (v : Value) → Way e v (route_two e v)
way_two Left (request x) = asks x refl refl refl
way_two Right (request x) = wrong rule.UnexpectedUnit refl refl refl
way_two Left (data0 last user) = wrong rule.UnexpectedUnit refl refl refl
way_two Right (data0 last user) = wrong rule.UnexpectedUnit refl refl refl
way_two e (confirm n x) = names n refl (route_is e (confirm n x) n refl)
way_two e (disconnect n source reason user) = names n refl (route_is e (disconnect n source reason user) n refl)
way_two e (disconnected n source) = names n refl (route_is e (disconnected n source) n refl)
way_two e (data2 n number last user) = names n refl (route_is e (data2 n number last user) n refl)
way_two e (acknowledge credit n number) = names n refl (route_is e (acknowledge credit n number) n refl)
way_two e (error n cause) = names n refl (route_is e (error n cause) n refl)

way_in : (e : Direction) (k : Option Class) (b : Bool) (v : Value) → (k ≡ None) ⊎ (k ≡ Some Two) → Way e v (route_in k e b v)
way_in e k b v (inl none) = subst (λ (j : Option Class). Way e v (route_in j e b v)) (sym none) (way_before e v)
way_in e k b v (inr two) = subst (λ (j : Option Class). Way e v (route_in j e b v)) (sym two) (way_two e v)

-- ---- a CR

request_by : (a b c d : Bool) (f : Finding) →
    first_failed ((a, Broke rule.Negotiating) ∷ (b, TooMany) ∷ (c, Broke rule.ReferenceInUse) ∷ (d, TooMany) ∷ []) ≡ f →
    (f ≡ Kept) ⊎ ((k : Option Class) (course : Course) → IsCalm (reached Left (reach_of k f) course) → ⊥)
request_by a b c d f e = grind (arith, not_calm, differ)

asks_case : (x : Connect) (s : Traffic) (f : Finding) → first_failed (request_tests s x) ≡ f →
    (f ≡ Kept) ⊎ ((k : Option Class) (course : Course) → IsCalm (reached Left (reach_of k f) course) → ⊥) →
    IsCalm (asks_by Left f x s).state.course → Came Left (request x) s (asks_by Left f x s)
asks_case x s Kept is h calm = asks_so x refl refl is refl
asks_case x s f is (inl kept) calm = absurd (cc)
asks_case x s f is (inr bad) calm =
    absurd (bad (class_for Left s.course) s.course (calm_noted Left f (reached Left (reach_of (class_for Left s.course) f) s.course) calm))

asks_left : (x : Connect) (s : Traffic) → IsCalm (asks_of Left (request x) s).state.course →
    Came Left (request x) s (asks_of Left (request x) s)
asks_left x s = asks_case x s (first_failed (request_tests s x)) refl (grind (arith, request_by))

-- ---- any unit

-- the receiver has broken no rule, if it is an ER
abbrev IsFine : Direction → Value → Traffic → Type 0
IsFine e v s = (m cause : ℕ) → v ≡ error m cause → has_erred (other e) s.course ≡ false

unnamed_so : (e : Direction) (v : Value) (s : Traffic) → IsFine e v s → IsCalm (unnamed_told e v s).state.course →
    IsIdle e v s (unnamed_told e v s)
unnamed_so Left v s fine h = search arith
unnamed_so Right v s fine h = search arith

module _ (e : Direction) (v : Value) (s : Traffic) (fine : IsFine e v s) where
  abbrev Comes : Outcome → Type 0
  Comes o = IsCalm o.state.course → Came e v s o

  at_item : (n q : ℕ) (o : Option Connection) → slice_get s.connections q ≡ o → position (is_named e n) s.connections ≡ Some q →
      destination_of v ≡ Some n → Comes (at_found e v s q o)
  at_item n q None at first d h = lost (unnamed_so e v s fine h)
  at_item n q (Some c) at first d h = for_one n q c d at (first_true (is_named e n) s.connections q c first at) refl

  at_name : (n : ℕ) (o : Option ℕ) → position (is_named e n) s.connections ≡ o → destination_of v ≡ Some n → Comes (at_place e v s o)
  at_name n None first d h = lost (unnamed_so e v s fine h)
  at_name n (Some q) first d h = at_item n q (slice_get s.connections q) refl first d h

  by_way : (r : Route) → Way e v r → Comes (routed e v s r)
  by_way r (asks x left is way) =
      subst (λ (y : Route). Comes (routed e v s y)) (sym way)
      (subst (λ (u : Value). IsCalm (asks_of e u s).state.course → Came e u s (asks_of e u s)) (sym is)
      (subst (λ (y : Direction). IsCalm (asks_of y (request x) s).state.course → Came y (request x) s (asks_of y (request x) s)) (sym left)
      (asks_left x s)))
  by_way r (names n d way) =
      subst (λ (y : Route). Comes (routed e v s y)) (sym way) (at_name n (position (is_named e n) s.connections) refl d)
  by_way r (wrong q past hard way) =
      subst (λ (y : Route). Comes (routed e v s y)) (sym way)
      (λ h. not_calm e (class_for e s.course) q s.course past hard
      (calm_noted e (Broke q) (reached e (reach_of (class_for e s.course) (Broke q)) s.course) h))

  pub came_so : is_stopped e s.course ≡ false → (class_for e s.course ≡ None) ⊎ (class_for e s.course ≡ Some Two) → Comes (takes e v s)
  came_so going class =
      subst Comes (sym (ap (λ (b : Bool). if b then none_told e NotJudged s else routed e v s (route e s.course v)) going))
      (by_way (route e s.course v) (way_in e (class_for e s.course) (has_broken (other e) s.course) v class))
