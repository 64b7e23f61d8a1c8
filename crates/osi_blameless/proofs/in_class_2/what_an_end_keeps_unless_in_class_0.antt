-- What holds of an end at each step, unless class 0 is selected, is as it is asked for: all its connections stand, or it has said nothing.
-- Then nobody of the end is to blame, also after a connection has lost its judgement.
-- For the law that no session of an end is blamed first.
use Rattle.osi_blameless.specs.transport.Wholes as wholes
use Rattle.osi_blameless.proofs.Vocabulary.{AllByRecursion, Bool, Connection, Deeds, Direction, Holding, IsFresh}
use Rattle.osi_blameless.proofs.Vocabulary.{IsOngoing, Joint, Left, List, Local, None, Right, Selecting, Sessions, Some, State, Steps}
use Rattle.osi_blameless.proofs.Vocabulary.{TakesTurn, Tracked, Turn, Two, Value, Zero, [], acceptance, ap, arith, begin}
use Rattle.osi_blameless.proofs.Vocabulary.{begins_other, begins_own, calls_from, early, false, firm_unless_two, inl, inr, is_closing}
use Rattle.osi_blameless.proofs.Vocabulary.{no_deeds, other, passes_other, passes_own, refl, selecting_passes, slice_get, stage_at, subst}
use Rattle.osi_blameless.proofs.Vocabulary.{sym, then_did, true, turns, unit_passes, units_in, ℕ, ◌++◌, ◌<◌, ◌∙◌, ◌∷◌, ◌≡◌, ◌⊎◌}
use Rattle.osi_judge.specs.Courses.{Course as Passed}
use Rattle.osi_blameless.proofs.in_class_2.a_turn_of_an_end_of_class_2.{answers_turn, asks_turn}
use Rattle.osi_blameless.proofs.standing.what_stands_of_a_connection.{Known}
use Rattle.osi_blameless.proofs.putting.a_called_end_answers_with_class_2_or_selects_class_0.{answers_or_selects}
use Rattle.osi_blameless.proofs.putting.a_whole_end_runs_along.{joined_by_place}
use Rattle.osi_blameless.proofs.standing.all_connections_stand.{AllStand, there_too}
use Rattle.osi_blameless.proofs.in_class_2.an_end_hears_what_breaks_no_rule.{AreFine}
use Rattle.osi_blameless.proofs.in_class_2.an_end_stands_as_units_pass.{MayGetTwo, StandsInTwo, hears_front, known_at, stands_first}
use Rattle.osi_blameless.proofs.in_class_2.an_end_stands_as_units_pass.{stands_other_begins, stands_other_passes, stands_own_begins}
use Rattle.osi_blameless.proofs.in_class_2.an_end_stands_as_units_pass.{stands_own_passes}
use Rattle.osi_blameless.proofs.in_class_2.an_end_that_has_said_nothing_is_not_to_blame.{HasSaidNothing, KeepsSilent, mute_leads}
use Rattle.osi_blameless.proofs.in_class_2.an_end_without_class_2_puts_no_dt.{puts_no_dt}
use Rattle.osi_blameless.proofs.shown.connections_have_the_same_places.{Agree, unit_knows}
use Rattle.osi_blameless.proofs.putting.by_its_lines_each_unit_of_an_end_has_a_home.{units_marked}
use Rattle.osi_blameless.proofs.in_class_2.no_connection_is_opened_before_a_class_is_selected.{AreUncalled, UncalledUntil, uncalled_claim}
use Rattle.osi_blameless.proofs.standing.nobody_of_a_side_is_to_blame.{IsMute}
use Rattle.osi_blameless.proofs.putting.nothing_is_done_before_a_cr_passes.{known_from, may_take}
use Rattle.osi_blameless.proofs.standing.steps_of_either_class_leave_all_standing.{all_stand}
use Rattle.osi_blameless.proofs.shown.a_session_that_is_shown_is_not_to_blame.{SessionLaws}
use Rattle.osi_blameless.proofs.putting.ccs_among_units.{AnswersTwo, first_not_zero}
use Rattle.osi_blameless.proofs.in_class_2.what_has_come_before_a_cc.{AreQuiet, begin_quiet, begins_other_quiet, begins_own_quiet}
use Rattle.osi_blameless.proofs.in_class_2.what_has_come_before_a_cc.{passes_other_quiet, passes_own_quiet, turns_quiet}
use Rattle.osi_blameless.proofs.in_class_2.what_is_asked_of_what_holds_at_each_step.{ArePassed, Keeps, Leads, leads_either}
use Rattle.osi_blameless.proofs.small_facts_that_many_lemmas_use.{all_front, none_some}
use Rattle.osi_blameless.proofs.keeping.steps_are_events.{whole_of, IsFollowed, begin_followed}
use Rattle.osi_blameless.proofs.steps.what_passes_keeps_a_claim.{step_kept}
use Rattle.osi_blameless.proofs.steps.what_the_turns_among_steps_do.{TurnDoes}
use Rattle.osi_blameless.proofs.in_class_2.what_is_asked_of_what_holds_at_each_step.{leads_more}

-- ---- units of the other side

fine_of : (d : Direction) (at : ℕ) (vs : List Value) (c : Passed) → ArePassed Zero d at vs c → AreFine d at vs c
fine_of d at [] c h = tt
fine_of d at (v ∷ vs) c (one, more) = (
  record { lasts = one.lasts; goes = one.goes; two = one.two; on = grind arith; loses = one.loses },
  fine_of d at vs (unit_passes (other d) at v c) more,
)

-- ---- all its connections stand

-- Of a calling end nothing is in flight to a connection whose CC has not passed. A called end gives a reference with its CC: it has given
-- none while no class is selected.
abbrev Besides : Direction → Joint → Type 0
Besides Left j = AreQuiet j
Besides Right j = UncalledUntil j.judge

pub record StandsBeside (d : Direction) (local : Local) (deeds : ℕ → Deeds) (j : Joint) : Type 0 where
  pub two : MayGetTwo d local
  pub stands : StandsInTwo d local deeds j
  pub besides : Besides d j

besides_own_begins : (d : Direction) (old new : Joint) → Steps d begins_own old new → Besides d old → Besides d new
besides_own_begins Left old new step h = begins_own_quiet old new step h
besides_own_begins Right old new step h = step_kept UncalledUntil uncalled_claim Right begins_own old new step h

besides_other_begins : (d : Direction) (old new : Joint) → Steps d begins_other old new → Besides d old → Besides d new
besides_other_begins Left old new step h = begins_other_quiet old new step h
besides_other_begins Right old new step h = step_kept UncalledUntil uncalled_claim Right begins_other old new step h

besides_own_passes : (d : Direction) (local : Local) (deeds : ℕ → Deeds) (at : ℕ) (v : Value) (old new : Joint) →
    Steps d (passes_own at v) old new → StandsBeside d local deeds old → Besides d new
besides_own_passes Left local deeds at v old new step h =
    passes_own_quiet local h.two deeds at v old new step h.stands.own h.stands.standing.all.places h.besides
besides_own_passes Right local deeds at v old new step h =
    step_kept UncalledUntil uncalled_claim Right (passes_own at v) old new step h.besides

besides_other_passes : (d : Direction) (local : Local) (deeds : ℕ → Deeds) (at : ℕ) (octets : List ℕ) (units : List Value)
    (old new : Joint) → Steps d (passes_other at octets units) old new → AreFine d at units old.judge → StandsBeside d local deeds old →
    Besides d new
besides_other_passes Left local deeds at octets units old new step fine h =
    passes_other_quiet local h.two deeds at octets units old new step h.stands.own fine h.besides
besides_other_passes Right local deeds at octets units old new step fine h =
    step_kept UncalledUntil uncalled_claim Right (passes_other at octets units) old new step h.besides

-- ---- or it has said nothing

-- It doesn't offer class 2; or it has selected class 0, and its CC that says so has not passed.
abbrev Silent : Direction → Local → Joint → Type 0
Silent Left local j = local.class2 ≡ false
Silent Right local j = AllByRecursion AnswersTwo j.put → ⊥

abbrev pub UnlessZero : Direction → Local → (ℕ → Deeds) → Joint → Type 0
UnlessZero d local deeds j = StandsBeside d local deeds j ⊎ HasSaidNothing d local (Silent d local) deeds j

module _ (local : Local) where
  abbrev HasSelected : (ℕ → Deeds) → Joint → Type 0
  HasSelected = HasSaidNothing Right local (Silent Right local)

  -- its CC would select class 0
  none_passes : {A : Type 0} (deeds : ℕ → Deeds) (at : ℕ) (v : Value) (old new : Joint) → Steps Right (passes_own at v) old new →
      IsOngoing old.judge.traffic.course → (new.judge.traffic.course.class ≡ Some Zero → ⊥) → HasSelected deeds old → A
  none_passes deeds at v old new (read, octets, (put, begun, is)) clear then_two h =
      absurd (by (answers_or_selects local old h.followed clear h.places))
    where
      by : AllByRecursion AnswersTwo old.put ⊎ Selecting local (whole_of h.followed) → ⊥
      by (inl two) = h.why two
      by (inr z) =
          let f = h.followed in
          let w = (whole_of f) in
          let j = joined_by_place local old f in
          let firm = firm_unless_two w.judge.course j.sound.two (λ two. none_some w.judge.course.class Two z.class two) in
          let p = selecting_passes local w j.sound.apart (j.sound.judged firm) clear.sure.right v new.put begun put z in
          grind (arith, unit_knows)

  silent_so : (d : Direction) → KeepsSilent d local (Silent d local)
  silent_so Left = record {
    still = λ old new same why. why;
    turns = λ turn old new t deeds does why. why;
    none_put = λ deeds at v old new step clear not h. (puts_no_dt local h.why at v old new step h.followed clear, h.why);
  }
  silent_so Right = record {
    still = λ old new same why two. why (subst (AllByRecursion AnswersTwo) same two);
    turns = λ turn old new t deeds does why two. why (all_front AnswersTwo old.put t.units (subst (AllByRecursion AnswersTwo) t.put two));
    none_put = λ deeds at v old new step clear not h. none_passes deeds at v old new step clear not h;
  }

-- ---- a turn

-- of a called end before it has selected a class nothing has been said
all_mute : (deeds : ℕ → Deeds) (known : Known) (put : List Value) (b : Bool) (s : State) (t : Sessions) →
    AllStand Right deeds known put b s t →
    s.course.loose ≡ false → AreUncalled t → IsMute Right t
all_mute deeds known put b s t a firm uncalled = grind (arith, there_too)

-- A called end may select class 0 in it.
turn_beside : (d : Direction) (local : Local) (turn : Turn) (old new : Joint) (t : TakesTurn turn old new)
    (deeds : ℕ → Deeds) (does : TurnDoes (calls_from d) deeds turn old new t) → IsFollowed d (wholes.begin (calls_from d) local) old →
    IsFollowed d (wholes.begin (calls_from d) local) new → IsOngoing old.judge.traffic.course → StandsBeside d local deeds old →
    UnlessZero d local (λ r. then_did (deeds r) (does.on.more r)) new
turn_beside Left local turn old new t deeds does f g clear h =
    inl (record {
      two = h.two;
      stands = asks_turn local h.two turn old new t deeds does
          (units_marked local h.two deeds turn old new t does f g clear h.stands.standing.all.places)
          (λ r some may. (h.besides clear).before r (some, may)) (closed_so h.besides) clear h.stands;
      besides = turns_quiet turn old new t deeds does h.besides;
    })
  where
    closed_so : AreQuiet old → (i : ℕ) (c : Connection) → slice_get old.judge.traffic.connections i ≡ Some c →
        is_closing c.right.phase ≡ true → 0 < c.left.reference → stage_at c.left.reference old.end.end.carrier ≡ early →
        Tracked old.judge.traffic.connections c.left.reference
    closed_so quiet i c there closing some may = let q = quiet clear in grind arith
turn_beside Right local turn old new t deeds does f g clear h =
    by (answers_or_selects local new g (subst (λ (c : Passed). IsOngoing c.traffic.course) (sym t.course) clear)
    (subst Agree (sym t.course) h.stands.standing.all.places))
  where
    uncalled : UncalledUntil new.judge
    uncalled = step_kept UncalledUntil uncalled_claim Right (turns turn) old new t h.besides

    by : AllByRecursion AnswersTwo new.put ⊎ Selecting local (whole_of g) →
        UnlessZero Right local (λ r. then_did (deeds r) (does.on.more r)) new
    by (inl two) = inl (record {
      two = tt;
      stands = answers_turn local turn old new t deeds does two clear h.stands;
      besides = uncalled;
    })
    by (inr z) =
        let no_class : old.judge.traffic.course.class ≡ None =
        ap (λ (c : Passed). c.traffic.course.class) (sym t.course) ∙ z.class in
        let firm : old.judge.traffic.course.loose ≡ false =
        ap (λ (c : Passed). c.traffic.course.loose) (sym t.course)
        ∙ firm_unless_two new.judge.traffic.course (joined_by_place local new g).sound.two
        (λ two. none_some new.judge.traffic.course.class Two z.class two) in
        inr (record {
          followed = g;
          places = subst Agree (sym t.course) h.stands.standing.all.places;
          mute = subst (λ (c : Passed). IsMute Right c.sessions) (sym t.course)
              (all_mute deeds (known_at old) old.put old.begun old.judge.traffic old.judge.sessions h.stands.standing.all firm
              (h.besides no_class));
          why = λ two. first_not_zero z.x.source (acceptance Zero z.size z.x local z.r) z.more new.put (sym z.put) refl two;
        })

-- ---- as it is asked for

module _ (local : Local) where
  beside_leads : (d : Direction) → Leads Zero d local (StandsBeside d local) (UnlessZero d local)
  beside_leads d = record {
    own_begins = λ deeds old new step courses few h. inl (record {
      two = h.two;
      stands = stands_own_begins d local deeds old new step courses few h.stands;
      besides = besides_own_begins d old new step h.besides;
    });
    other_begins = λ deeds old new step h. inl (record {
      two = h.two;
      stands = stands_other_begins d local deeds old new step h.stands;
      besides = besides_other_begins d old new step h.besides;
    });
    own_passes = λ deeds at v old new step fine clear then_two h. inl (record {
      two = h.two;
      stands = stands_own_passes d local h.two deeds at v old new step fine clear h.stands;
      besides = besides_own_passes d local deeds at v old new step h;
    });
    other_passes = λ deeds at octets units old new step taken not h.
        let fine = fine_of d at units old.judge taken in
        inl (record {
          two = h.two;
          stands = stands_other_passes d local h.two deeds at octets units old new step fine h.stands;
          besides = besides_other_passes d local deeds at octets units old new step fine h;
        });
    turn = λ turn old new t deeds does f g clear h. turn_beside d local turn old new t deeds does f g clear h;
    stands = λ deeds j h. all_stand (known_at j) h.stands.standing.all;
    stands_amid = λ deeds at octets front back old new step taken not h.
        all_stand (known_from (may_take old.end.end.carrier) (units_in old.coming ++ front))
        (hears_front d local h.two deeds at octets front back old step.0 step.1 (fine_of d at front old.judge taken) h.stands).heard.stand;
  }

  begins_unless : (d : Direction) (h : Holding) → IsFresh (calls_from d) local h → UnlessZero d local (λ r. no_deeds) (begin h)
  begins_unless Right h fresh =
      inl (record { two = tt; stands = stands_first Right local h fresh; besides = λ none. grind arith })
  begins_unless Left h fresh = by local.class2 refl
    where
      by : (b : Bool) → local.class2 ≡ b → UnlessZero Left local (λ r. no_deeds) (begin h)
      by true two = inl (record { two = two; stands = stands_first Left local h fresh; besides = begin_quiet h })
      by false none =
          let f = begin_followed Left true local h fresh in
          inr (record { followed = f; places = grind arith; mute = grind arith; why = none })

  pub keeps_unless_zero : SessionLaws → (d : Direction) → Keeps Zero d local (UnlessZero d local)
  keeps_unless_zero laws d = record {
    begins = begins_unless d;
    leads = leads_either Zero d local (StandsBeside d local) (HasSaidNothing d local (Silent d local)) (UnlessZero d local) (beside_leads d)
        (leads_more Zero d local (HasSaidNothing d local (Silent d local)) (HasSaidNothing d local (Silent d local)) (UnlessZero d local)
        (λ deeds j h. inr h) (mute_leads d local (Silent d local) (silent_so local d)));
    laws = laws;
  }
