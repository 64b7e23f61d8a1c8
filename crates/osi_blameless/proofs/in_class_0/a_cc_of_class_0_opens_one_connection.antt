-- A CC of class 0 opens the connection that the end has asked for, or answers; at the judge no other one has a reference that the end still
-- uses. For the session of the connection of an end in class 0.
use Rattle.osi_blameless.proofs.Vocabulary.{arith, ◌≡◌, ◌∙◌, ◌⊎◌, inl, inr, refl, sym, ap, subst, ℕ, Bool, true, false, if◌then◌else◌, List}
use Rattle.osi_blameless.proofs.Vocabulary.{Direction, unit_passes, [], ◌∷◌, Option, Some, None, ◌==◌, slice_get, eqb-true, Connect, Value}
use Rattle.osi_blameless.proofs.Vocabulary.{confirm, Class, Connection, Offer, Finding, Broke, NotJudged, Outside, Reach, Half, Phase}
use Rattle.osi_blameless.proofs.Vocabulary.{is_applied, first_failed, given_again, is_refused, is_silent, Outcome, State, at_found}
use Rattle.osi_blameless.proofs.Vocabulary.{class_of, connection_after, found_on, is_stopped, in_doubt, judged_on, sent_on, takes}
use Rattle.osi_blameless.proofs.Vocabulary.{unnamed_by, unlike, AreJudged, Waits, after_change, calm_judge, set_there, Joined, Sessions}
use Rattle.osi_blameless.proofs.Vocabulary.{reference_of, taken, Course, HaveSamePlaces, differ, Disconnects}
use Rattle.osi_side.specs.declared.directions.Direction.TheVariants as side
use Rattle.osi_rules.specs.declared.directions.Direction.TheVariants.{Right}
use Rattle.osi_rules.specs.declared.findings.Rule.TheVariants as rule
use Rattle.osi_blameless.proofs.transport.requests.class_0_stays_selected.{reached_class}
use Rattle.osi_judge.specs.Connections as joined
use Rattle.osi_blameless.proofs.keeping.what_a_taker_passes_over.{IsMild}
use Rattle.osi_blameless.proofs.shown.a_unit_is_joined_where_it_is_named.{joined_named}
use Rattle.osi_blameless.proofs.in_class_0.class_0_keeps_its_one_place.{HasOne}
use Rattle.osi_blameless.proofs.shown.connections_have_the_same_places.{at_same, unit_joins, unit_knows}
use Rattle.osi_blameless.proofs.in_class_2.no_connection_is_opened_before_a_class_is_selected.{AreUncalled}
use Rattle.osi_blameless.proofs.putting.each_reference_of_an_end_is_new.{AreUpTo, IsWithin}
use Rattle.osi_blameless.proofs.putting.references_of_an_end_are_distinct.{AreDistinct}
use Rattle.osi_blameless.proofs.standing.what_a_unit_does_at_its_place.{Does, asks_again, asks_more, nowhere, somewhere, unit_does}
use Rattle.osi_blameless.proofs.small_facts_that_many_lemmas_use.{not_some, same_one}

-- ---- small facts

no_place : {A : Type 0} (o : Option ℕ) (i : ℕ) → o ≡ None → o ≡ Some i → A
no_place o i h k = absurd (cc)

silent_not : {A : Type 0} (p : Phase) → is_silent p ≡ true → is_refused p ≡ true → A
silent_not h h2 k = grind arith

judged_right : (x : Reach) (c : Connection) → (judged_on x c).right ≡ c.right
judged_right x c = grind arith

-- ---- it has its effect at a place

-- what is told of a unit that has its effect there, and selects a class
pub record HasEffect (s : State) (k : Class) (o : Outcome) : Type 0 where
  pub place : ℕ
  pub connection : Connection
  pub there : slice_get s.connections place ≡ Some connection
  pub told : o.told.place ≡ Some place
  pub applied : is_applied o.told.finding ≡ true
  pub silent : is_silent connection.right.phase ≡ true
  pub judged : connection.is_judged ≡ true
  pub class : o.state.course.class ≡ Some k

unknown_breaks : {A : Type 0} (loose strays : Bool) (n : ℕ) (x : Connect) → loose ≡ false →
    IsMild (confirm n x) (if loose then in_doubt (unnamed_by strays (confirm n x)) else unnamed_by strays (confirm n x)) → A
unknown_breaks h strays n x firm mild = grind arith

tests_applied : (v : Value) (a b i u loose l : Bool) → loose ≡ false →
    IsMild v (first_failed ((a, Broke rule.WrongForm) ∷ (b, Broke rule.BadAnswer) ∷ (i, Outside) ∷ (u, given_again loose)
    ∷ (l, Broke rule.LargerSize) ∷ [])) →
    is_applied (first_failed ((a, Broke rule.WrongForm) ∷ (b, Broke rule.BadAnswer) ∷ (i, Outside) ∷ (u, given_again loose)
    ∷ (l, Broke rule.LargerSize) ∷ [])) ≡ true
tests_applied v a b i u loose l firm mild = grind arith

judged_applied : (v : Value) (j : Bool) (f : Finding) → j ≡ true → (IsMild v f → is_applied f ≡ true) →
    IsMild v (if j then f else NotJudged) → is_applied (if j then f else NotJudged) ≡ true
judged_applied v j f h g mild = grind arith

module _ (n : ℕ) (x : Connect) (s : State) (goes : is_stopped Right s.course ≡ false) (class : s.course.class ≡ None)
    (firm : s.course.loose ≡ false) (judged : AreJudged s) where
  abbrev v : Value
  v = confirm n x

  applied_so : (c : Connection) → c.is_judged ≡ true → IsMild v (found_on Right s c v) → is_applied (found_on Right s c v) ≡ true
  applied_so c j mild = search (arith, judged_applied, tests_applied)

  found_effect : (p : ℕ) (o : Option Connection) → slice_get s.connections p ≡ o →
      IsMild v (at_found Right v s p o).told.finding → HasEffect s (class_of x) (at_found Right v s p o)
  found_effect p o there mild = search (arith, unknown_breaks, applied_so, reached_class)

  -- if it is no break, or is passed over
  pub has_effect : IsMild v (takes Right v s).told.finding → HasEffect s (class_of x) (takes Right v s)
  has_effect mild = search (arith, unknown_breaks, found_effect)

-- ---- so it opens that connection

module _ (n : ℕ) (x : Connect) (at : ℕ) (c : Course) (places : HaveSamePlaces c.traffic.connections c.sessions.live)
    (goes : is_stopped Right c.traffic.course ≡ false) (class : c.traffic.course.class ≡ None) (firm : c.traffic.course.loose ≡ false)
    (judged : AreJudged c.traffic) (mild : IsMild (confirm n x) (takes Right (confirm n x) c.traffic).told.finding) where
  abbrev s : State
  s = c.traffic

  abbrev t : Sessions
  t = c.sessions

  abbrev unit : Value
  unit = confirm n x

  pub effect : HasEffect s (class_of x) (takes Right unit s)
  effect = has_effect n x s goes class firm judged mild

  -- it is for a connection with this reference
  pub opens_within : (b : ℕ) → AreUpTo side.Left b t → IsWithin b n
  opens_within b low =
      let (k, here, one) = at_same s.connections t.live effect.place effect.connection places effect.there in
      low.live effect.place k n here
      (joined_named side.Right unit c n effect.place effect.connection k places refl effect.told effect.there effect.judged here)

  -- the one that waits for its answer has this reference
  pub awaits_this : (r p : ℕ) (o : Offer) (cs : List Connection) (drs : Disconnects) → s ≡ calm_judge cs drs → Waits r p o cs → n ≡ r
  awaits_this r p o cs drs judge w =
      let (k, here, one) = at_same s.connections t.live effect.place effect.connection places effect.there in
      let mine : Some k.calling ≡ Some n =
      joined_named side.Right unit c n effect.place effect.connection k places refl effect.told effect.there effect.judged here in
      sym (same_one k.calling n mine) ∙ one.calling ∙ by (effect.place == p) refl
    where
      at_it : slice_get cs effect.place ≡ Some effect.connection
      at_it = ap (λ (y : State). slice_get y.connections effect.place) (sym judge) ∙ effect.there

      by : (b : Bool) → (effect.place == p) ≡ b → effect.connection.left.reference ≡ r
      by true e =
          let same : effect.connection ≡ w.c =
          same_one effect.connection w.c (sym at_it ∙ ap (slice_get cs) (eqb-true effect.place p e) ∙ w.at) in
          ap (λ (y : Connection). y.left.reference) same ∙ w.reference
      by false e =
          silent_not effect.connection.right.phase effect.silent
          (w.others effect.place effect.connection at_it (unlike effect.place p e)).1

  -- ---- the place where it opens, and the others

  abbrev Then : Direction → ℕ → (ℕ → Type 0) → Type 0
  Then d r gone = HasOne d r gone (unit_passes side.Right at unit c).traffic (unit_passes side.Right at unit c).sessions

  -- a side has this reference where it opens, and all its other ones are gone
  record OpensOne (d : Direction) (r : ℕ) (gone : ℕ → Type 0) (p : ℕ) (j : Joined) : Type 0 where
    mine : reference_of d (joined.opened x.source (joined.class_of unit) j) ≡ Some r
    others : (i : ℕ) (z : Joined) (q : ℕ) → (i ≡ p → ⊥) → slice_get t.live i ≡ Some z → reference_of d z ≡ Some q → gone q
    done : (i : ℕ) (z : Joined) (q : ℕ) → slice_get t.done i ≡ Some z → reference_of d z ≡ Some q → gone q

  module _ (d : Direction) (r : ℕ) (gone : ℕ → Type 0) (one : (p : ℕ) (k : Connection) (j : Joined) →
      (takes Right unit s).told.place ≡ Some p → slice_get s.connections p ≡ Some k → slice_get t.live p ≡ Some j →
      OpensOne d r gone p j) where
    mine_by : (p : ℕ) (next z : Joined) → reference_of d next ≡ Some r →
        ((p ≡ p) × (z ≡ next)) ⊎ ((p ≡ p → ⊥) × (slice_get t.live p ≡ Some z)) → reference_of d z ≡ Some r
    mine_by p next z mine h = grind arith

    others_by : (p : ℕ) (j next z : Joined) → OpensOne d r gone p j → (i q : ℕ) → (i ≡ p → ⊥) →
        ((i ≡ p) × (z ≡ next)) ⊎ ((i ≡ p → ⊥) × (slice_get t.live i ≡ Some z)) → reference_of d z ≡ Some q → gone q
    others_by p j next z o i q apart (inl (e, is)) named = absurd (apart e)
    others_by p j next z o i q apart (inr (other, is)) named = o.others i z q apart is named

    opened_by : Does side.Right at unit s t (takes Right unit s) → HasOne d r gone (takes Right unit s).state
        (taken side.Right at unit (takes Right unit s).told.meaning (takes Right unit s).told.place t)
    opened_by (nowhere place cs ts) = no_place (takes Right unit s).told.place effect.place place effect.told
    opened_by (somewhere p k j false y place there here one_of finding is far cs ts) = grind (arith, differ, effect)
    opened_by (somewhere p k j true y place there here one_of finding is far cs ts) =
        let o = one p k j place there here in
        let new : Connection = connection_after Right unit true y k in
        let next : Joined = joined.opened x.source (joined.class_of unit) j in
        subst (HasOne d r gone (takes Right unit s).state) (sym ts) (record {
          place = p;
          connection = new;
          there = ap (λ (l : List Connection). slice_get l p) cs ∙ set_there s.connections p new k there;
          up = ap (λ (z : Half). is_refused z.phase) (judged_right y (sent_on Right unit k));
          mine = λ z at_z. mine_by p next z o.mine (after_change t.live p p next z at_z);
          others = λ i z q apart at_z named. others_by p j next z o i q apart (after_change t.live p i next z at_z) named;
          done = o.done;
        })
    opened_by (asks_more y is number cs ts) = absurd (cc is)
    opened_by (asks_again y is number p k here free cs ts) = absurd (cc is)

    opens_one : Then d r gone
    opens_one = search (arith, unit_knows, unit_joins, opened_by (unit_does side.Right at unit s t places))

  -- left gave the reference with its CR: no other connection has it
  pub cc_opens : (gone : ℕ → Type 0) → AreDistinct side.Left t → (b : ℕ) → AreUpTo side.Left b t →
      ((q : ℕ) → IsWithin b q → (q ≡ n → ⊥) → gone q) → Then side.Left n gone
  cc_opens gone distinct b low rest =
      opens_one side.Left n gone
      (λ p k j place there here.
      let mine : reference_of side.Left j ≡ Some n =
      joined_named side.Right unit c n p k j places refl place there (judged firm p k there) here in
      record {
        mine = mine;
        others = λ i z q apart at_z named.
            rest q (low.live i z q at_z named)
            (λ e. apart (distinct.live i p z j n at_z here (named ∙ ap (λ (m : ℕ). Some m) e) mine));
        done = λ i z q at_z named.
            rest q (low.done i z q at_z named)
            (λ e. distinct.done p i j z n here at_z mine (named ∙ ap (λ (m : ℕ). Some m) e));
      })

  -- right gives the reference with this CC: it has given none before
  pub cc_answers : (gone : ℕ → Type 0) → AreUncalled t → Then side.Right x.source gone
  cc_answers gone none =
      opens_one side.Right x.source gone
      (λ p k j place there here. record {
        mine = refl;
        others = λ i z q apart at_z named. not_some (reference_of side.Right z) q named (none.live i z at_z);
        done = λ i z q at_z named. not_some (reference_of side.Right z) q named (none.done i z at_z);
      })
