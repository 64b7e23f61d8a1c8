-- Until a called end selects class 0 all its connections stand at a judge, while it has selected no class and while its CC of class 2
-- waits. For the session of the connection of an end in class 0.
use Rattle.osi_blameless.proofs.Vocabulary.{arith, ◌≡◌, ◌∙◌, ◌⊎◌, inl, inr, refl, sym, ap, subst, ℕ, ◌^◌, ◌<◌, Bool, true, false}
use Rattle.osi_blameless.proofs.Vocabulary.{if◌then◌else◌, List, [], ◌∷◌, ◌++◌, length, Some, None, slice_get, AllByRecursion, Connect}
use Rattle.osi_blameless.proofs.Vocabulary.{Value, confirm, Two, Zero, Local, Left, Right, IsNoCc, State, class_for, Holding, Selecting}
use Rattle.osi_blameless.proofs.Vocabulary.{left_class, IsClear, IsFirm, Deeds, no_deeds, then_did, units_in, Marked, all_units, IsFresh}
use Rattle.osi_blameless.proofs.Vocabulary.{Turn, amid, stage_at, stage_is, stage_there, all_units_more, Joined, spoken}
use Rattle.osi_blameless.proofs.Vocabulary.{packet_begins, unit_passes, units_pass, heard, Joint, Steps, TakesTurn, begin, begins_other}
use Rattle.osi_blameless.proofs.Vocabulary.{begins_own, passes_other, passes_own, going_on, IsOngoing, takes, class_of, Class, ◌==◌}
use Rattle.osi_rules.specs.declared.directions.Direction.TheVariants as way
use Rattle.osi_judge.specs.Courses.{Course as Passed}
use Rattle.osi_blameless.proofs.keeping.what_a_taker_passes_over.{mild_of}
use Rattle.osi_blameless.proofs.steps.what_the_turns_among_steps_do.{TurnDoes}
use Rattle.osi_blameless.proofs.small_facts_that_many_lemmas_use.{none_some}
use Rattle.osi_blameless.proofs.putting.a_called_end_answers_with_class_2_or_selects_class_0.{answers_or_selects}
use Rattle.osi_blameless.proofs.in_class_2.a_turn_of_an_end_of_class_2.{answers_turn}
use Rattle.osi_blameless.proofs.in_class_2.an_end_stands_as_units_pass.{stands_first, stands_other_begins, stands_other_passes}
use Rattle.osi_blameless.proofs.in_class_2.an_end_stands_as_units_pass.{stands_own_begins, stands_own_passes}
use Rattle.osi_blameless.proofs.in_class_0.a_cc_of_class_0_opens_one_connection.{has_effect}
use Rattle.osi_blameless.proofs.in_class_0.a_turn_after_which_a_cc_of_class_0_waits.{no_cc_taken}
use Rattle.osi_blameless.proofs.putting.a_turn_does_what_its_deeds_say.{turn_leaves, units_more}
use Rattle.osi_blameless.proofs.in_class_0.an_end_answers_with_class_0.{StandsAnswering, first, units_unselected}
use Rattle.osi_blameless.proofs.in_class_2.an_end_hears_what_breaks_no_rule.{AreFine}
use Rattle.osi_blameless.proofs.shown.connections_have_the_same_places.{Agree, unit_knows}
use Rattle.osi_blameless.proofs.putting.each_reference_of_an_end_is_new.{turns_ahead}
use Rattle.osi_blameless.proofs.standing.each_step_leaves_class_0_one_connection.{Sure, fresh_sure, sure_claim}
use Rattle.osi_blameless.proofs.in_class_2.no_connection_is_opened_before_a_class_is_selected.{AreUncalled, uncalled_claim}
use Rattle.osi_blameless.proofs.in_class_0.only_a_cc_selects_a_class.{selects_none}
use Rattle.osi_blameless.proofs.standing.steps_leave_all_standing.{IsProper}
use Rattle.osi_blameless.proofs.standing.steps_of_either_class_leave_all_standing.{IsRight}
use Rattle.osi_blameless.proofs.in_class_0.the_turn_that_selects_class_0.{StandsUnselected, turns_selecting, unselected_so}
use Rattle.osi_blameless.proofs.in_class_0.units_of_class_0_come_after_its_cc.{IsQuiet}
use Rattle.osi_blameless.proofs.putting.ccs_among_units.{AnswersTwo, HasCc, has_back, has_front}
use Rattle.osi_blameless.proofs.in_class_0.what_a_turn_puts_at_the_connections_that_are_open.{WasOpen, open_before, puts_cc, takes_cc}
use Rattle.osi_blameless.proofs.in_class_0.what_a_turn_puts_at_the_connections_that_are_open.{then_open}
use Rattle.osi_blameless.proofs.putting.what_a_turn_puts_goes_to_its_peer.{all_back}
use Rattle.osi_blameless.proofs.in_class_2.what_is_asked_of_what_holds_at_each_step.{ArePassed, HaveCourses, early}
use Rattle.osi_blameless.proofs.standing.what_passes_leaves_all_standing.{firm_goes, firm_links, mild_stays}
use Rattle.osi_blameless.proofs.keeping.steps_are_events.{whole_of}

-- ---- small facts

none_open : (peer : ℕ) (given : Bool) → stage_there given None ≡ amid peer → ⊥
none_open peer given e = grind arith

has_later : (n r : ℕ) (v : Value) (vs : List Value) → IsNoCc v → HasCc n r (v ∷ vs) → HasCc n r vs
has_later n r (confirm m x) vs h h2 = absurd (h m x refl)
has_later n r v vs h h2 = grind arith

two_class : (x : Connect) → x.class ≡ 2 → class_of x ≡ Two
two_class x is = ap (λ (k : ℕ). if◌then◌else◌ {A = Class} (k == 2) Two Zero) is

-- ---- units of the other side

fine_of : (at : ℕ) (vs : List Value) (c : Passed) → c.traffic.course.class ≡ None → ArePassed Two Right at vs c → AreFine Right at vs c
fine_of at [] c none h = tt
fine_of at (v ∷ vs) c none h =
    let one = early Right v c h.0 in
    let two : class_for way.Left c.traffic.course ≡ Some Zero → ⊥ =
    λ seen. none_some c.traffic.course.class Zero none (h.0.sure.agrees Zero seen) in (
      record {
        lasts = record {
          sure = record { left = h.0.firm.left; right = h.0.firm.right };
          two = λ zero. none_some c.traffic.course.class Zero none zero;
        };
        goes = one.goes;
        two = two;
        on = grind (arith, firm_goes);
        loses = λ far. absurd (mild_stays Left v c.traffic one.mild far);
      },
      fine_of at vs (unit_passes Left at v c)
          (ap (λ (s : State). s.course.class) (unit_knows Left at v c) ∙ left_class v c.traffic ∙ none) h.1,
    )

-- a CC of class 2 would select it
no_cc_passes : (at : ℕ) (v : Value) (old : Passed) → AnswersTwo v → IsRight Right v old → Sure old → old.traffic.course.class ≡ None →
    ((unit_passes Right at v old).traffic.course.class ≡ Some Two → ⊥) → IsNoCc v
no_cc_passes at v old two right sure none not m x is =
    not (ap (λ (s : State). s.course.class) (unit_knows Right at v old)
    ∙ subst (λ (u : Value). (takes way.Right u old.traffic).state.course.class ≡ Some Two) (sym is)
    ((has_effect m x old.traffic right.goes none right.firm sure.judged
    (mild_of (confirm m x) (takes way.Right (confirm m x) old.traffic).told.finding
    (subst (λ (u : Value). IsRight Right u old) is right).none)).class
    ∙ ap (λ (k : Class). Some k) (two_class x (subst AnswersTwo is two))))

module _ (local : Local) where
  pub unselected_first : (h : Holding) → IsFresh false local h → StandsUnselected local (λ r. no_deeds) (begin h)
  unselected_first h fresh = grind (arith, fresh_sure, none_open, stage_is, stands_first Right local h fresh)

  module _ (deeds : ℕ → Deeds) where
    abbrev Stands : Joint → Type 0
    Stands j = StandsUnselected local deeds j

    -- ---- a packet begins

    pub unselected_own_begins : (old new : Joint) → Steps Right begins_own old new → HaveCourses Right deeds old →
        ((i : ℕ) (j : Joined) → slice_get old.judge.sessions.live i ≡ Some j → length (heard (spoken Left j)) < 2 ^ 64) →
        Stands old → Stands new
    unselected_own_begins old new (some, none, is) courses few h =
        let mid : Joint = record old { begun = true; judge = packet_begins Right old.judge } in
        subst Stands (sym is) (record {
          stands = stands_own_begins Right local deeds old mid (some, none, refl) courses few h.stands;
          sure = sure_claim.begins Right old.judge h.sure;
          class = h.class;
          quiet = h.quiet;
          uncalled = uncalled_claim.begins Right old.judge (λ now. h.uncalled) h.class;
          shut = h.shut;
        })

    pub unselected_other_begins : (old new : Joint) → Steps Right begins_other old new → Stands old → Stands new
    unselected_other_begins old new is h =
        let mid : Joint = record old { judge = packet_begins Left old.judge } in
        subst Stands (sym is) (record {
          stands = stands_other_begins Right local deeds old mid refl h.stands;
          sure = sure_claim.begins Left old.judge h.sure;
          class = h.class;
          quiet = h.quiet;
          uncalled = uncalled_claim.begins Left old.judge (λ now. h.uncalled) h.class;
          shut = h.shut;
        })

    -- ---- a unit of the end passes, and selects no class

    pub unselected_own_passes : (at : ℕ) (v : Value) (old new : Joint) → Steps Right (passes_own at v) old new →
        IsRight Right v old.judge →
        IsFirm old.judge.traffic.course → (new.judge.traffic.course.class ≡ Some Two → ⊥) → Stands old → Stands new
    unselected_own_passes at v old new (read, octets, (put, begun, is)) right firm not h =
        let mid : Joint = record old { put = new.put; begun = false; judge = units_pass Right at (v ∷ []) old.judge } in
        let plain : IsNoCc v = no_cc_passes at v old.judge (subst (AllByRecursion AnswersTwo) put h.stands.own.holds.two).0 right
        h.sure h.class
        (λ two. not (ap (λ (j : Joint). j.judge.traffic.course.class) is ∙ two)) in
        let fine : IsProper Right v old.judge = record {
          goes = right.goes;
          two = λ zero_is. none_some old.judge.traffic.course.class Zero h.class zero_is;
          none = right.none;
          links = firm_links Right v old.judge.traffic right.firm h.sure.judged right.goes right.none;
        } in
        let class : mid.judge.traffic.course.class ≡ None =
        ap (λ (s : State). s.course.class) (unit_knows Right at v old.judge) ∙ selects_none way.Right v old.judge.traffic plain
        ∙ h.class in
        subst Stands (sym is) (record {
          stands = stands_own_passes Right local tt deeds at v old mid (read, octets, (put, begun, refl)) fine
              (going_on old.judge.traffic.course
              (record { sure = firm; two = λ zero_is. none_some old.judge.traffic.course.class Zero h.class zero_is })) h.stands;
          sure = sure_claim.passes Right at v old.judge h.sure;
          class = class;
          quiet = h.quiet;
          uncalled = uncalled_claim.passes Right at v old.judge (λ now. h.uncalled) class;
          shut = λ q peer some stage.
              let (n, has) = h.shut q peer some stage in (n, has_later n q v new.put plain (subst (HasCc n q) put has));
        })

    -- ---- a packet of the other side passes

    pub unselected_other_passes : (at : ℕ) (packet : List ℕ) (units : List Value) (old new : Joint) →
        Steps Right (passes_other at packet units) old new → ArePassed Two Right at units old.judge → Stands old → Stands new
    unselected_other_passes at packet units old new (octets, read, is) passed h =
        let mid : Joint = record old { judge = units_pass Left at units old.judge; coming = old.coming ++ packet ∷ [] } in
        let all = units_more old.coming packet units read in
        let after = units_unselected deeds old.end.end.carrier old.put old.begun at units (units_in old.coming) old.judge passed
        (unselected_so local deeds old h) in
        subst Stands (sym is) (record {
          stands = stands_other_passes Right local tt deeds at packet units old mid (octets, read, refl)
              (fine_of at units old.judge h.class passed) h.stands;
          sure = after.sure;
          class = after.class;
          quiet = subst (AllByRecursion IsQuiet) all after.quiet;
          uncalled = after.new;
          shut = h.shut;
        })

  -- ---- a turn

  module _ (turn : Turn) (old new : Joint) (t : TakesTurn turn old new) (deeds : ℕ → Deeds) (does : TurnDoes false deeds turn old new t)
      (firm : IsFirm old.judge.traffic.course) (h : StandsUnselected local deeds old) where
    abbrev put : List Marked
    put = does.on.put

    abbrev then_deeds : ℕ → Deeds
    then_deeds = λ r. then_did (deeds r) (does.on.more r)

    turn_put : new.put ≡ old.put ++ all_units put
    turn_put = t.put ∙ ap (λ (l : List Value). old.put ++ l) does.units

    clear : IsClear old.judge.traffic.course
    clear = record { sure = firm; two = λ zero_is. none_some old.judge.traffic.course.class Zero h.class zero_is }

    has_cc : (q : ℕ) → 0 < q → WasOpen false q (stage_at q old.end.end.carrier) does.on.took put → (n : ℕ) × HasCc n q new.put
    has_cc q some (open_before m is) =
        let (n, has) = h.shut q m some is in
        (n, subst (HasCc n q) (sym turn_put) (has_front n q old.put (all_units put) has))
    has_cc q some (puts_cc called m x front later source is) =
        (m, subst (HasCc m q) (sym turn_put) (has_back m q old.put (all_units put) (grind (arith, all_units_more, has_back))))
    has_cc q some (takes_cc may x front later is) =
        no_cc_taken local turn old new t deeds does q q x front later h.quiet may is

    none_turns : AllByRecursion AnswersTwo new.put → StandsUnselected local then_deeds new
    none_turns two = record {
      stands = answers_turn local turn old new t deeds does two
          (going_on old.judge.traffic.course clear) h.stands;
      sure = subst Sure (sym t.course) h.sure;
      class = ap (λ (c : Passed). c.traffic.course.class) t.course ∙ h.class;
      quiet = all_back IsQuiet (units_in t.used) (units_in new.coming)
          (subst (AllByRecursion IsQuiet) (turn_leaves turn old new t) h.quiet);
      uncalled = subst (λ (c : Passed). AreUncalled c.sessions) (sym t.course) h.uncalled;
      shut = λ q peer some is. has_cc q some (then_open false turn old new t deeds does q peer some is);
    }

    turn_by : AllByRecursion AnswersTwo new.put
        ⊎ Selecting local (whole_of (turns_ahead Right (first local) turn old new t h.stands.own.ahead).ahead.followed) →
        StandsUnselected local then_deeds new ⊎ StandsAnswering local then_deeds new
    turn_by (inl two) = inl (none_turns two)
    turn_by (inr z) = inr (turns_selecting local turn old new t deeds does firm h z)

    pub unselected_turns : StandsUnselected local then_deeds new ⊎ StandsAnswering local then_deeds new
    unselected_turns =
        turn_by (answers_or_selects local new (turns_ahead Right (first local) turn old new t h.stands.own.ahead).ahead.followed
        (subst (λ (c : Passed). IsOngoing c.traffic.course) (sym t.course) (going_on old.judge.traffic.course clear))
        (subst Agree (sym t.course) h.stands.standing.all.places))
