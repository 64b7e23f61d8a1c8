-- A CC that has its effect gives a reference that no connection has which the calling end has not closed. So none of the units that wait
-- to pass are for this reference: each of them is for a connection whose CC has passed.
-- For all connections of an end and a judge.
use Rattle.osi_blameless.proofs.Vocabulary.{◌≡◌, ◌∙◌, refl, ap, ℕ, Bool, true, false, if◌then◌else◌, List, [], ◌∷◌, Option, Some, arith}
use Rattle.osi_blameless.proofs.Vocabulary.{◌||◌, slice_get, AllByRecursion, Connect, Value, confirm, destination_of, Class, Left}
use Rattle.osi_blameless.proofs.Vocabulary.{Connection, Broke, Outside, Phase, is_applied, first_failed, given_again, is_closing, is_open}
use Rattle.osi_blameless.proofs.Vocabulary.{uses, State, at_found, at_place, found_on, route_in, in_doubt, routed, takes, unnamed_by}
use Rattle.osi_blameless.proofs.Vocabulary.{uses_source, IsOwned, asking, is_tracked, stray, none_true, picked_rest, Sessions}
use Rattle.osi_blameless.proofs.Vocabulary.{HaveSamePlaces, named_by, differ}
use Rattle.osi_rules.specs.declared.directions.Direction.TheVariants as way
use Rattle.osi_rules.specs.declared.findings.Rule.TheVariants as rule
use Rattle.osi_blameless.proofs.transport.by_line.each_connection_has_its_line.{of}
use Rattle.osi_blameless.proofs.shown.a_right_dt_has_one_place.{AreUsedApart, still_used}
use Rattle.osi_blameless.proofs.shown.connections_have_the_same_places.{at_same}
use Rattle.osi_blameless.proofs.standing.what_stands_of_a_connection.{is_for, waiting_for}
use Rattle.osi_blameless.proofs.small_facts_that_many_lemmas_use.{and_both}
use Rattle.osi_blameless.proofs.transport.names.a_reference_names_one_connection.{not_true as not_so}

-- ---- a CC that has its effect

first_new : (a b i u loose z : Bool) → is_applied (first_failed ((a, Broke rule.WrongForm) ∷ (b, Broke rule.BadAnswer) ∷ (i, Outside)
    ∷ (u, given_again loose) ∷ (z, Broke rule.LargerSize) ∷ [])) ≡ true → u ≡ true
first_new a b i u loose z h = grind arith

module _ (n : ℕ) (x : Connect) (s : State) where
  abbrev IsNew : Type 0
  IsNew = uses_source way.Right s.connections (confirm n x) ≡ false

  cc_on : (c : Connection) → is_applied (found_on way.Right s c (confirm n x)) ≡ true → IsNew
  cc_on c applied = grind (arith, not_so, first_new)

  cc_nowhere : {A : Type 0} (loose strays : Bool) →
      is_applied (if loose then in_doubt (unnamed_by strays (confirm n x)) else unnamed_by strays (confirm n x)) ≡ true → A
  cc_nowhere loose strays h = grind arith

  cc_here : (i : ℕ) (o : Option Connection) → is_applied (at_found way.Right (confirm n x) s i o).told.finding ≡ true → IsNew
  cc_here i o applied = grind (arith, cc_nowhere, cc_on)

  cc_any : (o : Option ℕ) → is_applied (at_place way.Right (confirm n x) s o).told.finding ≡ true → IsNew
  cc_any o applied = grind (arith, cc_nowhere, cc_here)

  cc_routed : (k : Option Class) (b : Bool) →
      is_applied (routed way.Right (confirm n x) s (route_in k way.Right b (confirm n x))).told.finding ≡ true → IsNew
  cc_routed k b applied = grind (arith, cc_any)

  pub cc_new : is_applied (takes way.Right (confirm n x) s).told.finding ≡ true →
      uses_source way.Right s.connections (confirm n x) ≡ false
  cc_new applied = grind (arith, cc_routed)

-- ---- so no connection that is open has its reference

named_tracked : (p : Phase) (r : ℕ) → (is_open p || is_closing p) ≡ true → named_by p r ≡ Some r
named_tracked p r h = grind arith

-- a unit for another reference
for_another : (n m : ℕ) (v : Value) → destination_of v ≡ Some m → (m ≡ n → ⊥) → is_for (Some n) v ≡ false
for_another n m v e other = grind arith

module _ (n : ℕ) (x : Connect) (s : State) (t : Sessions) (places : HaveSamePlaces s.connections t.live)
    (apart : AreUsedApart Left s.connections) (applied : is_applied (takes way.Right (confirm n x) s).told.finding ≡ true) where
  pub none_open : (i : ℕ) (c : Connection) → slice_get s.connections i ≡ Some c → is_tracked c ≡ true →
      c.right.reference ≡ x.source → ⊥
  none_open i c there tracked same =
      let (j, here, one) = at_same s.connections t.live i c places there in
      let (live, answered) = and_both (is_open c.left.phase) (is_open c.right.phase || is_closing c.right.phase) tracked in
      let named : j.called ≡ Some x.source =
      one.called ∙ named_tracked c.right.phase c.right.reference answered ∙ ap (λ (m : ℕ). Some m) same in
      differ (uses way.Right x.source c)
      (still_used Left x.source c j one (apart.sound i c there) live named)
      (none_true (λ (k : Connection). uses way.Right x.source k) s.connections i c (cc_new n x s applied) there)

  owned_not : (v : Value) → IsOwned s v → is_for (Some x.source) v ≡ false
  owned_not v (asking y is) = ap (is_for (Some x.source)) is
  owned_not v (of p c at tracked own) =
      for_another x.source c.right.reference v own.named (λ same. none_open p c at tracked same)
  owned_not v (stray m source is strays) = ap (is_for (Some x.source)) is

  pub nothing_waits : (put : List Value) → AllByRecursion (λ (v : Value). IsOwned s v) put → waiting_for (Some x.source) put ≡ []
  nothing_waits [] h = refl
  nothing_waits (v ∷ put) h = picked_rest (is_for (Some x.source)) v put (owned_not v h.0) ∙ nothing_waits put h.1
