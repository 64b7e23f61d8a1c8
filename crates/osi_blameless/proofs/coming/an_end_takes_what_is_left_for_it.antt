-- What an end takes in a turn at a connection is the first of what is left over for it; and if nothing of what has come is for it, it takes
-- nothing there.
-- For all connections of an end and a judge, after breaks of the other side too.
use Rattle.osi_blameless.proofs.Vocabulary.{[], ap, Bool, false, List, None, refl, Some, subst, sym, true, ℕ, ◌++◌, ◌<◌, ◌∙◌, ◌∷◌, ◌≡◌}
use Rattle.osi_blameless.proofs.Vocabulary.{◌⊎◌, inl, inr, amid, past}
use Rattle.osi_blameless.proofs.small_facts_that_many_lemmas_use.{amid_not, early_lasts, past_not}
use Rattle.osi_blameless.proofs.Vocabulary.{◌||◌, Value, Part, early, Life, stage_at, stage_over, Time, Continues, Deeds, units_in}
use Rattle.osi_blameless.proofs.Vocabulary.{all_units, Marked, Turn, parts_of, picked_join, Joint, TakesTurn, Carrier, arith, HasNoDr}
use Rattle.osi_blameless.proofs.coming.a_calling_end_takes_nothing_before_its_cc.{quiet_turn}
use Rattle.osi_blameless.proofs.putting.a_turn_does_what_its_deeds_say.{turn_leaves, turn_uses}
use Rattle.osi_blameless.proofs.putting.nothing_is_done_before_a_cr_passes.{is_under_way, may_take}
use Rattle.osi_blameless.proofs.coming.what_an_end_takes_at_each_stage.{AreReady, IsFlight, turn_clean, turn_takes, turn_takes_by}
use Rattle.osi_blameless.proofs.standing.what_is_left_for_an_end.{AreLeft, dr_later, dr_none, has_dr, known_left, left_empty}
use Rattle.osi_blameless.proofs.standing.what_is_left_for_an_end.{left_front, left_none}
use Rattle.osi_blameless.proofs.standing.what_stands_of_a_connection.{Takes, is_for, waiting_for}

-- ---- what is left over

-- none of these units is a DR for it
abbrev pub IsClean : ℕ → List Value → Type 0
IsClean r units = has_dr r units ≡ false

during_clean : (r : ℕ) (units : List Marked) → HasNoDr r units → IsClean r (all_units units)
during_clean r [] h = refl
during_clean r (m ∷ units) h = ap (λ (b : Bool). b || has_dr r (all_units units)) h.0 ∙ during_clean r units h.1

left_flight : (is_caller : Bool) (r : ℕ) → IsFlight is_caller r (AreLeft r) (IsClean r)
left_flight is_caller r = grind (arith, left_front, dr_none, during_clean)

-- ---- a connection that may take more

-- its end lasts
pub live_lasts : (r : ℕ) (c : Carrier) → may_take c r ≡ true → c.ended ≡ None
live_lasts r c live = grind (arith, is_under_way, stage_at, stage_over)

-- and it could take more before
still_live : (is_caller : Bool) (r : ℕ) (s : Time) (took put : List Marked) (t : Time) → Life is_caller r s took put t →
    is_under_way t ≡ true → is_under_way s ≡ true
still_live is_caller r s took put t life live = grind (arith, is_under_way)

-- ---- a turn

module _ (is_caller : Bool) (turn : Turn) (old new : Joint) (t : TakesTurn turn old new) (deeds : ℕ → Deeds)
    (on : Continues is_caller deeds old.end turn new.end) (r : ℕ) (some : 0 < r)
    (life : Life is_caller r (stage_at r old.end.end.carrier) on.took on.put (stage_at r new.end.end.carrier)) where
  abbrev pub TakesLeft : List Part → Type 0
  TakesLeft later = Takes (on.more r) later (known_left (may_take new.end.end.carrier) (units_in new.coming) r)

  abbrev pub IsReadyNow : Type 0
  IsReadyNow = stage_at r old.end.end.carrier ≡ early →
      AreReady is_caller r (IsClean r) (stage_at r new.end.end.carrier) on.took

  pub left_takes : IsReadyNow → (later : List Part) → known_left (may_take old.end.end.carrier) (units_in old.coming) r later →
      TakesLeft later
  left_takes ready later sure = search (arith, turn_takes_by, left_flight is_caller r)

  pub was_live : may_take new.end.end.carrier r ≡ true → may_take old.end.end.carrier r ≡ true
  was_live live = still_live is_caller r (stage_at r old.end.end.carrier) on.took on.put (stage_at r new.end.end.carrier) life live

  -- so a DR for it that had come is still in flight
  pub dr_stays : IsReadyNow → may_take new.end.end.carrier r ≡ true → has_dr r (units_in old.coming) ≡ true →
      has_dr r (units_in new.coming) ≡ true
  dr_stays ready live was =
      let s = turn_uses turn old new t is_caller deeds on (live_lasts r old.end.end.carrier (was_live live)) in
      let none : s.left ++ units_in new.coming ≡ units_in new.coming =
      ap (λ (l : List Value). l ++ units_in new.coming) (s.all (live_lasts r new.end.end.carrier live)) in
      subst (λ (l : List Value). has_dr r l ≡ true) none
      (dr_later r (all_units on.took) (s.left ++ units_in new.coming) (search (arith, turn_clean, left_flight is_caller r))
      (subst (λ (l : List Value). has_dr r l ≡ true) s.coming was))

  -- ---- nothing of what has come is for it

  module _ (none : waiting_for (Some r) (units_in old.coming) ≡ []) where
    last_none : (us vs : List Value) → us ++ vs ≡ [] → vs ≡ []
    last_none [] vs e = e
    last_none (u ∷ us) vs e = absurd (cc)

    then_none : waiting_for (Some r) (units_in new.coming) ≡ []
    then_none =
        last_none (waiting_for (Some r) (units_in t.used)) (waiting_for (Some r) (units_in new.coming))
        (sym (picked_join (is_for (Some r)) (units_in t.used) (units_in new.coming))
        ∙ ap (waiting_for (Some r)) (sym (turn_leaves turn old new t)) ∙ none)

    pub none_takes : (stage_at r old.end.end.carrier ≡ early → old.end.end.carrier.ended ≡ None) → (later : List Part) →
        known_left (may_take old.end.end.carrier) (units_in old.coming) r later → TakesLeft later
    none_takes lasts later sure =
        let x = turn_takes is_caller turn old new t deeds on r some life
        (λ may.
        let s = turn_uses turn old new t is_caller deeds on (lasts may) in
        grind (arith, quiet_turn, stage_at, waiting_for)) later
        (λ live. left_none r (units_in old.coming) later none (sure live) ∙ sym (ap parts_of none)) in
        grind (arith, then_none, left_empty)

  -- it is ready where it may open, or nothing is for it
  pub either_takes : (stage_at r old.end.end.carrier ≡ early →
      AreReady is_caller r (IsClean r) (stage_at r new.end.end.carrier) on.took ⊎ (waiting_for (Some r) (units_in old.coming) ≡ [])) →
      (later : List Part) → known_left (may_take old.end.end.carrier) (units_in old.coming) r later → TakesLeft later
  either_takes opens later sure = by (stage_at r old.end.end.carrier) refl
    where
      open_by : AreReady is_caller r (IsClean r) (stage_at r new.end.end.carrier) on.took
          ⊎ (waiting_for (Some r) (units_in old.coming) ≡ []) → TakesLeft later
      open_by (inl ready) = left_takes (λ may. ready) later sure
      open_by (inr none) = none_takes none (λ may. early_lasts r old.end.end.carrier may) later sure

      by : (s : Time) → stage_at r old.end.end.carrier ≡ s → TakesLeft later
      by early may = open_by (opens may)
      by (amid peer) is = left_takes (λ may. amid_not (stage_at r old.end.end.carrier) peer may is) later sure
      by past is = left_takes (λ may. past_not (stage_at r old.end.end.carrier) may is) later sure
