-- From the turn in which a called end puts its CC of class 0 until this CC passes, all its connections stand at a judge; and after that, as
-- in class 0. For the session of the connection of an end in class 0.
use Rattle.osi_blameless.proofs.Vocabulary.{[], ap, Bool, false, length, List, None, Option, refl, Some, subst, sym, true, ℕ, ◌++◌, ◌<◌}
use Rattle.osi_blameless.proofs.Vocabulary.{◌^◌, ◌∙◌, ◌∷◌, ◌≡◌, eqb-true, append-nil, append_assoc, slice_get, confirm}
use Rattle.osi_blameless.proofs.Vocabulary.{Connect, Value, parts_in, Two, Zero, Local, class_of, Traffic as State, takes, Left, Right}
use Rattle.osi_blameless.proofs.Vocabulary.{amid, stage_at, Deeds, units_in, Joined, spoken, unit_passes}
use Rattle.osi_blameless.proofs.Vocabulary.{units_pass, heard, left_class, begins_other, begins_own, Joint, Holding, passes_other}
use Rattle.osi_blameless.proofs.Vocabulary.{passes_own, Steps, parts_of, arith, packet_begins, first_is, Class}
use Rattle.osi_carrier.specs.State.{State as Carrier}
use Rattle.osi_rules.specs.declared.directions.Direction.TheVariants as way
use Rattle.osi_blameless.specs.transport.Wholes as wholes
use Rattle.osi_judge.specs.Courses.{Course as Passed}
use Rattle.osi_blameless.proofs.small_facts_that_many_lemmas_use.{all_join}
use Rattle.osi_blameless.proofs.keeping.what_a_taker_passes_over.{mild_of}
use Rattle.osi_blameless.proofs.in_class_0.a_cc_of_class_0_opens_one_connection.{HasEffect, cc_answers, has_effect}
use Rattle.osi_blameless.proofs.putting.a_turn_does_what_its_deeds_say.{units_more}
use Rattle.osi_blameless.proofs.shown.a_unit_is_joined_where_it_is_named.{joined_named}
use Rattle.osi_blameless.proofs.standing.all_connections_stand.{there_too}
use Rattle.osi_blameless.proofs.in_class_0.an_end_stands_before_a_class_is_selected.{AllInNone, StandInNone, none_other_begins}
use Rattle.osi_blameless.proofs.in_class_0.an_end_stands_before_a_class_is_selected.{none_own_begins}
use Rattle.osi_blameless.proofs.in_class_0.an_end_stands_in_class_0.{IsGone, StandsInZero, asking_quiet, known_in, none_named}
use Rattle.osi_blameless.proofs.in_class_0.an_end_stands_in_class_0.{only_asking, unseen_stands}
use Rattle.osi_blameless.proofs.in_class_0.class_0_keeps_its_one_place.{HasOne}
use Rattle.osi_blameless.proofs.shown.connections_have_the_same_places.{unit_knows}
use Rattle.osi_blameless.proofs.putting.each_reference_of_an_end_is_new.{GoesOn, IsAhead, begins_other_ahead, begins_own_ahead, other_up}
use Rattle.osi_blameless.proofs.putting.each_reference_of_an_end_is_new.{passes_highest, passes_other_ahead}
use Rattle.osi_blameless.proofs.standing.each_step_leaves_class_0_one_connection.{sure_claim}
use Rattle.osi_blameless.proofs.in_class_2.no_connection_is_opened_before_a_class_is_selected.{uncalled_claim}
use Rattle.osi_blameless.proofs.standing.steps_of_either_class_leave_all_standing.{IsRight, any_passes_own}
use Rattle.osi_blameless.proofs.in_class_0.units_of_class_0_come_after_its_cc.{IsQuiet, quiet_ccs, quiet_none, quiet_order}
use Rattle.osi_blameless.proofs.in_class_2.what_is_asked_of_what_holds_at_each_step.{ArePassed, HaveCourses, early as tolerable}
use Rattle.osi_blameless.proofs.standing.what_passes_leaves_all_standing.{IsReady}
use Rattle.osi_blameless.proofs.standing.what_stands_of_a_connection.{waiting_for}

-- ---- units of the calling side

-- they select no class
pub units_select_none : (at : ℕ) (vs : List Value) (c : Passed) → c.traffic.course.class ≡ None →
    (units_pass Left at vs c).traffic.course.class ≡ None
units_select_none at [] c h = h
units_select_none at (v ∷ vs) c h =
    units_select_none at vs (unit_passes Left at v c)
    (ap (λ (s : State). s.course.class) (unit_knows Left at v c) ∙ left_class v c.traffic ∙ h)

-- and it knows none
unseen : (c : Passed) (o : Option Class) → c.traffic.course.class_seen ≡ o →
    ((k : Class) → c.traffic.course.class_seen ≡ Some k → c.traffic.course.class ≡ Some k) → c.traffic.course.class ≡ None →
    c.traffic.course.class_seen ≡ None
unseen c None is agrees none = is
unseen c (Some k) is agrees none = absurd (let no : None ≡ Some k = sym none ∙ agrees k is in cc)

module _ (deeds : ℕ → Deeds) (end : Carrier) (put : List Value) (begun : Bool) (at : ℕ) where
  pub units_unselected : (vs coming : List Value) (c : Passed) → ArePassed Two Right at vs c →
      AllInNone Right deeds end put begun coming c → AllInNone Right deeds end put begun (coming ++ vs) (units_pass Left at vs c)
  units_unselected [] coming c passed h =
      subst (λ (l : List Value). AllInNone Right deeds end put begun l c) (sym (append-nil coming)) h
  units_unselected (v ∷ vs) coming c passed h =
      let right = tolerable Right v c passed.0 in
      let seen = unseen c c.traffic.course.class_seen refl h.sure.agrees h.class in
      let next : AllInNone Right deeds end put begun (coming ++ v ∷ []) (unit_passes Left at v c) = record {
        sure = sure_claim.passes Left at v c h.sure;
        class = units_select_none at (v ∷ []) c h.class;
        all = unseen_stands deeds end put begun at coming v c right seen h.all;
        quiet = all_join IsQuiet coming (v ∷ []) h.quiet
            (asking_quiet v (only_asking deeds end put begun at coming v c right seen), tt);
        new = uncalled_claim.passes Left at v c (λ none. h.new) (units_select_none at (v ∷ []) c h.class);
      } in
      subst (λ (l : List Value). AllInNone Right deeds end put begun l (units_pass Left at (v ∷ vs) c)) (append_assoc coming (v ∷ []) vs)
      (units_unselected vs (coming ++ v ∷ []) (unit_passes Left at v c) passed.1 next)

zero_class : (x : Connect) → (x.class ≡ 2 → ⊥) → class_of x ≡ Zero
zero_class x not = grind (arith, eqb-true)

module _ (local : Local) where
  abbrev pub first : wholes.Whole
  first = wholes.begin false local

  -- It has put its CC of class 0, which is the first unit that waits: all that it put at this connection waits after it, nothing was taken
  -- there, and no other connection is open.
  pub record StandsAnswering (deeds : ℕ → Deeds) (j : Joint) : Type 0 where
    pub ahead : IsAhead Right first j
    pub n : ℕ
    pub x : Connect
    pub rest : List Value
    pub put : j.put ≡ confirm n x ∷ rest
    pub not_two : x.class ≡ 2 → ⊥
    pub positive : 0 < x.source
    pub none : StandInNone Right deeds j
    pub waits : (deeds x.source).put ≡ waiting_for (Some n) j.put
    pub unheard : parts_in (deeds x.source).calls ≡ []
    pub amid_is : (q peer : ℕ) → 0 < q → stage_at q j.end.end.carrier ≡ amid peer → q ≡ x.source

  module _ (deeds : ℕ → Deeds) where
    -- the end goes on as it is, and puts nothing
    answering_on : (old new : Joint) (h : StandsAnswering deeds old) → GoesOn Right first h.ahead.bound new → new.end ≡ old.end →
        new.put ≡ old.put → StandInNone Right deeds new → StandsAnswering deeds new
    answering_on old new h g same put none = record {
      ahead = g.ahead;
      n = h.n;
      x = h.x;
      rest = h.rest;
      put = put ∙ h.put;
      not_two = h.not_two;
      positive = h.positive;
      none = none;
      waits = h.waits ∙ ap (waiting_for (Some h.n)) (sym put);
      unheard = h.unheard;
      amid_is = subst (λ (k : Holding). (q peer : ℕ) → 0 < q → stage_at q k.end.carrier ≡ amid peer → q ≡ h.x.source) (sym same) h.amid_is;
    }

    pub answering_own_begins : (old new : Joint) → Steps Right begins_own old new → HaveCourses Right deeds old →
        ((i : ℕ) (j : Joined) → slice_get old.judge.sessions.live i ≡ Some j → length (heard (spoken Left j)) < 2 ^ 64) →
        StandsAnswering deeds old → StandsAnswering deeds new
    answering_own_begins old new (some, none, is) courses few h =
        let mid : Joint = record old { begun = true; judge = packet_begins Right old.judge } in
        subst (StandsAnswering deeds) (sym is) (answering_on old mid h
        (begins_own_ahead Right first old mid (some, none, refl) h.ahead) refl refl
        (none_own_begins Right deeds old h.none none courses few))

    pub answering_other_begins : (old new : Joint) → Steps Right begins_other old new → StandsAnswering deeds old →
        StandsAnswering deeds new
    answering_other_begins old new is h =
        let mid : Joint = record old { judge = packet_begins Left old.judge } in
        subst (StandsAnswering deeds) (sym is) (answering_on old mid h
        (begins_other_ahead Right first old mid refl h.ahead) refl refl
        (none_other_begins Right deeds old h.none))

    pub answering_other_passes : (at : ℕ) (packet : List ℕ) (units : List Value) (old new : Joint) →
        Steps Right (passes_other at packet units) old new → ArePassed Two Right at units old.judge → StandsAnswering deeds old →
        StandsAnswering deeds new
    answering_other_passes at packet units old new (octets, read, is) passed h =
        let mid : Joint = record old { judge = units_pass Left at units old.judge; coming = old.coming ++ packet ∷ [] } in
        let all = units_more old.coming packet units read in
        let end = old.end.end.carrier in
        let b = h.ahead.bound in
        subst (StandsAnswering deeds) (sym is) (answering_on old mid h
        (passes_other_ahead Right first at packet units old mid (octets, read, refl) h.ahead
        (other_up Right first at b packet units old mid (octets, read, refl) h.none.all.places
        (none_named Right b at units old.judge passed)
        h.ahead.below))
        refl refl
        (subst (λ (l : List Value). AllInNone Right deeds end old.put old.begun l mid.judge) all
        (units_unselected deeds end old.put old.begun at units (units_in old.coming) old.judge passed h.none)))

    -- ---- the CC passes

    module _ (at : ℕ) (old new : Joint) (h : StandsAnswering deeds old) where
      abbrev n : ℕ
      n = h.n

      abbrev x : Connect
      x = h.x

      abbrev c : Passed
      c = old.judge

      abbrev cc_is : Value
      cc_is = confirm n x

      abbrev end : Carrier
      end = old.end.end.carrier

      abbrev coming : List Value
      coming = units_in old.coming

      module _ (step : Steps Right (passes_own at cc_is) old new) (right : IsRight Right cc_is c) where
        abbrev mid : Joint
        mid = record old { put = new.put; begun = false; judge = units_pass Right at (cc_is ∷ []) c }

        mid_step : Steps Right (passes_own at cc_is) old mid
        mid_step = (step.0, step.1, (step.2.0, step.2.1, refl))

        effect : HasEffect c.traffic (class_of x) (takes way.Right cc_is c.traffic)
        effect = has_effect n x c.traffic right.goes h.none.class right.firm h.none.all.judged (grind (arith, mild_of))

        ready : IsReady Right deeds (known_in end coming) cc_is new.put c.traffic c.sessions
        ready = (
          λ p j place here.
              let (k, there) = there_too c.traffic.connections c.sessions.live p j h.none.all.places here in
              let named = joined_named Right cc_is c n p k j h.none.all.places refl place there
              (h.none.all.judged right.firm p k there) here in
              h.waits ∙ ap (waiting_for (Some n)) step.2.0 ∙ ap (λ (o : Option ℕ). waiting_for o new.put) (sym named),
          h.unheard,
          (h.positive, λ live. sym (ap parts_of (quiet_none x.source coming h.none.quiet))),
        )

        one : HasOne Right x.source (IsGone end) mid.judge.traffic mid.judge.sessions
        one =
            cc_answers n x at c h.none.all.places right.goes h.none.class right.firm h.none.all.judged (grind (arith, mild_of)) (IsGone end)
            h.none.new

        cc_passes : StandsInZero Right local deeds mid
        cc_passes =
            let k = passes_highest Right first at cc_is x.source refl old mid mid_step h.none.all.places h.ahead in
            record {
              ahead = k.ahead;
              r = x.source;
              within = (h.positive, (let same = k.bound in omega (arith, same)));
              zero = record {
                sure = sure_claim.passes Right at cc_is c h.none.sure;
                class = grind (arith, effect, unit_knows, zero_class);
                all = (any_passes_own Right deeds (known_in end coming) at cc_is old mid mid_step h.none.sure right (λ not. ready)
                    (record { all = h.none.all })).all;
                one = one;
                ccs = quiet_ccs x.source coming h.none.quiet;
                order = quiet_order coming h.none.quiet;
              };
              amid_is = h.amid_is;
              some = λ begun. absurd (cc begun);
            }

    pub answering_own_passes : (at : ℕ) (unit : Value) (old new : Joint) → Steps Right (passes_own at unit) old new →
        IsRight Right unit old.judge → StandsAnswering deeds old → StandsInZero Right local deeds new
    answering_own_passes at unit old new step right h =
        let same : confirm h.n h.x ≡ unit = first_is (confirm h.n h.x) unit h.rest new.put (sym h.put ∙ step.2.0) in
        let first_step = subst (λ (v : Value). Steps Right (passes_own at v) old new) (sym same) step in
        let first_right = subst (λ (v : Value). IsRight Right v old.judge) (sym same) right in
        subst (StandsInZero Right local deeds) (sym first_step.2.2) (cc_passes at old new h first_step first_right)
