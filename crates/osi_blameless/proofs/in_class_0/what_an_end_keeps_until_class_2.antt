-- What holds of an end until class 2 is selected is as it is asked for, calling or called: nobody of the end is to blame, as long as all is
-- judged. For the laws that no session of an end is blamed first, nor after a break of the other side.
use Rattle.osi_blameless.proofs.Vocabulary.{◌≡◌, ◌⊎◌, inl, inr, ℕ, None, Two, Local, Direction, Left, Right, Deeds, Holding}
use Rattle.osi_blameless.proofs.Vocabulary.{IsFresh, Joint, begin, calls_from, no_deeds, List, Value, units_in, units_pass, ◌++◌}
use Rattle.osi_blameless.proofs.in_class_0.a_turn_after_which_a_cc_of_class_0_waits.{turns_answering}
use Rattle.osi_blameless.proofs.in_class_0.a_turn_before_the_cc_comes.{unanswered_turns}
use Rattle.osi_blameless.proofs.in_class_0.a_turn_of_an_end_in_class_0.{zero_turns}
use Rattle.osi_blameless.proofs.in_class_0.an_end_answers_with_class_0.{StandsAnswering, answering_other_begins, answering_other_passes}
use Rattle.osi_blameless.proofs.in_class_0.an_end_answers_with_class_0.{answering_own_begins, answering_own_passes}
use Rattle.osi_blameless.proofs.in_class_0.an_end_answers_with_class_0.{units_unselected}
use Rattle.osi_blameless.proofs.in_class_0.an_end_awaits_its_cc.{StandsUnanswered, comes_all, unanswered_comes, unanswered_first}
use Rattle.osi_blameless.proofs.in_class_0.an_end_awaits_its_cc.{unanswered_other_begins, unanswered_other_passes, unanswered_own_begins}
use Rattle.osi_blameless.proofs.in_class_0.an_end_awaits_its_cc.{unanswered_own_passes}
use Rattle.osi_blameless.proofs.in_class_0.an_end_stands_in_class_0.{StandsInZero, known_in, units_zero}
use Rattle.osi_blameless.proofs.in_class_0.an_end_stands_in_class_0.{zero_other_begins, zero_other_passes, zero_own_begins}
use Rattle.osi_blameless.proofs.in_class_0.an_end_stands_in_class_0.{zero_own_passes}
use Rattle.osi_blameless.proofs.in_class_0.an_end_stands_until_it_selects_class_0.{unselected_first, unselected_other_begins}
use Rattle.osi_blameless.proofs.in_class_0.an_end_stands_until_it_selects_class_0.{unselected_other_passes, unselected_own_begins}
use Rattle.osi_blameless.proofs.in_class_0.an_end_stands_until_it_selects_class_0.{unselected_own_passes, unselected_turns}
use Rattle.osi_blameless.proofs.in_class_0.the_turn_that_selects_class_0.{StandsUnselected, unselected_so}
use Rattle.osi_blameless.proofs.in_class_2.what_is_asked_of_what_holds_at_each_step.{Keeps, Leads, leads_either}
use Rattle.osi_blameless.proofs.shown.a_session_that_is_shown_is_not_to_blame.{SessionLaws}
use Rattle.osi_blameless.proofs.standing.steps_of_either_class_leave_all_standing.{all_stand}
use Rattle.osi_blameless.proofs.standing.what_stands_of_a_connection.{Known}

-- Before class 0 is selected: a calling end awaits its CC; a called end has not selected class 0, or its CC that does so has not passed.
abbrev pub StandsBefore : Direction → Local → (ℕ → Deeds) → Joint → Type 0
StandsBefore Left local deeds j = StandsUnanswered local deeds j
StandsBefore Right local deeds j = StandsUnselected local deeds j ⊎ StandsAnswering local deeds j

pub none_selected : (d : Direction) (local : Local) (deeds : ℕ → Deeds) (j : Joint) →
    StandsBefore d local deeds j → j.judge.traffic.course.class ≡ None
none_selected Left local deeds j h = h.none.class
none_selected Right local deeds j (inl h) = h.class
none_selected Right local deeds j (inr h) = h.none.class

abbrev pub StandsUntilTwo : Direction → Local → (ℕ → Deeds) → Joint → Type 0
StandsUntilTwo d local deeds j = StandsBefore d local deeds j ⊎ StandsInZero d local deeds j

module _ (local : Local) where
  abbrev Until : Direction → (ℕ → Deeds) → Joint → Type 0
  Until d = StandsUntilTwo d local

  -- what is known of the parts in flight, also after some more units
  abbrev known_at : Joint → Known
  known_at j = known_in j.end.end.carrier (units_in j.coming)

  abbrev known_then : Joint → List Value → Known
  known_then j front = known_in j.end.end.carrier (units_in j.coming ++ front)

  zero_leads : (d : Direction) → Leads Two d local (StandsInZero d local) (Until d)
  zero_leads d = record {
    own_begins = λ deeds old new step courses few h. inr (zero_own_begins d local deeds old new step courses few h);
    other_begins = λ deeds old new step h. inr (zero_other_begins d local deeds old new step h);
    own_passes = λ deeds at v old new step own lasts not h. inr (zero_own_passes d local deeds at v old new step own.0 lasts.0 h);
    other_passes = λ deeds at octets units old new step passed not h.
        inr (zero_other_passes d local deeds at octets units old new step passed h);
    turn = λ turn old new t deeds does f g lasts h.
        inr (zero_turns d local turn old new t deeds does lasts.0 h);
    stands = λ deeds j h. all_stand (known_at j) h.zero.all;
    stands_amid = λ deeds at octets front back old new step passed not h.
        all_stand (known_then old front)
        (units_zero d deeds h.r old.end.end.carrier old.put old.begun at front (units_in old.coming) old.judge passed h.zero).all;
  }

  unanswered_leads : Leads Two Left local (StandsUnanswered local) (Until Left)
  unanswered_leads = record {
    own_begins = λ deeds old new step courses few h. inl (unanswered_own_begins local deeds old new step courses few h);
    other_begins = λ deeds old new step h. inl (unanswered_other_begins local deeds old new step h);
    own_passes = λ deeds at v old new step own lasts not h. inl (unanswered_own_passes local deeds at v old new step own.0 h);
    other_passes = λ deeds at octets units old new step passed not h.
        unanswered_other_passes local deeds at octets units old new step passed not h;
    turn = λ turn old new t deeds does f g lasts h.
        inl (unanswered_turns local turn old new t deeds does h);
    stands = λ deeds j h. all_stand (known_at j) h.none.all;
    stands_amid = λ deeds at octets front back old new step passed not h.
        all_stand (known_then old front)
        (comes_all local deeds old.end.end.carrier old.put old.begun at h.ahead.bound (units_in old.coming ++ front)
        (units_pass Right at front old.judge) (unanswered_comes local deeds at octets front back old step.0 step.1 passed not h));
  }

  unselected_leads : Leads Two Right local (StandsUnselected local) (Until Right)
  unselected_leads = record {
    own_begins = λ deeds old new step courses few h. inl (inl (unselected_own_begins local deeds old new step courses few h));
    other_begins = λ deeds old new step h. inl (inl (unselected_other_begins local deeds old new step h));
    own_passes = λ deeds at v old new step own lasts not h.
        inl (inl (unselected_own_passes local deeds at v old new step own.0 lasts.0 not h));
    other_passes = λ deeds at octets units old new step passed not h.
        inl (inl (unselected_other_passes local deeds at octets units old new step passed h));
    turn = λ turn old new t deeds does f g lasts h. inl (unselected_turns local turn old new t deeds does lasts.0 h);
    stands = λ deeds j h. all_stand (known_at j) (unselected_so local deeds j h).all;
    stands_amid = λ deeds at octets front back old new step passed not h.
        all_stand (known_then old front)
        (units_unselected deeds old.end.end.carrier old.put old.begun at front (units_in old.coming) old.judge passed
        (unselected_so local deeds old h)).all;
  }

  answering_leads : Leads Two Right local (StandsAnswering local) (Until Right)
  answering_leads = record {
    own_begins = λ deeds old new step courses few h. inl (inr (answering_own_begins local deeds old new step courses few h));
    other_begins = λ deeds old new step h. inl (inr (answering_other_begins local deeds old new step h));
    own_passes = λ deeds at v old new step own lasts not h. inr (answering_own_passes local deeds at v old new step own.0 h);
    other_passes = λ deeds at octets units old new step passed not h.
        inl (inr (answering_other_passes local deeds at octets units old new step passed h));
    turn = λ turn old new t deeds does f g lasts h.
        inl (inr (turns_answering local turn old new t deeds does lasts.0 h));
    stands = λ deeds j h. all_stand (known_at j) h.none.all;
    stands_amid = λ deeds at octets front back old new step passed not h.
        all_stand (known_then old front)
        (units_unselected deeds old.end.end.carrier old.put old.begun at front (units_in old.coming) old.judge passed h.none).all;
  }

  before_leads : (d : Direction) → Leads Two d local (StandsBefore d local) (Until d)
  before_leads Left = unanswered_leads
  before_leads Right =
      leads_either Two Right local (StandsUnselected local) (StandsAnswering local) (Until Right) unselected_leads answering_leads

  pub keeps_until_two : SessionLaws → (d : Direction) → Keeps Two d local (Until d)
  keeps_until_two laws d = record {
    begins = begins_by d;
    leads = leads_either Two d local (StandsBefore d local) (StandsInZero d local) (Until d) (before_leads d) (zero_leads d);
    laws = laws;
  }
    where
      begins_by : (d : Direction) (h : Holding) → IsFresh (calls_from d) local h → Until d (λ r. no_deeds) (begin h)
      begins_by Left h fresh = inl (unanswered_first local h fresh)
      begins_by Right h fresh = inl (inl (unselected_first local h fresh))
