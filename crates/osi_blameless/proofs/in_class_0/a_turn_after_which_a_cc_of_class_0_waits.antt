-- A turn of a called end after which its CC of class 0 waits: the one in which the end puts this CC, and each one until it passes. What the
-- end puts after the CC is for this connection, and it takes nothing there yet.
-- For the session of the connection of an end in class 0.
use Rattle.osi_blameless.proofs.Vocabulary.{◌≡◌, ◌∙◌, refl, sym, ap, subst, ℕ, ◌-◌, ◌<◌, true, false, List, [], ◌∷◌, ◌++◌, Option, Some}
use Rattle.osi_blameless.proofs.Vocabulary.{None, arith, inl, inr, ◌⊎◌, ◌≢◌, AllByRecursion, Connect, Value, confirm, parts_in, Part, Local}
use Rattle.osi_blameless.proofs.Vocabulary.{unit_octets, Right, Selecting, zero_puts, IsFirm, picked_join, Deeds, then_did}
use Rattle.osi_blameless.proofs.Vocabulary.{units_in, Marked, all_units, Turn, early, stage_at, all_units_more, taken_more}
use Rattle.osi_blameless.proofs.Vocabulary.{Joint, TakesTurn, parts_of, HaveSamePlaces}
use Rattle.std.proofs.lemmas.List.Concat.{flat_map-append}
use Rattle.osi_carrier.specs.State.{State as Carrier}
use Rattle.osi_judge.specs.Courses.{Course as Passed}
use Rattle.osi_blameless.proofs.keeping.steps_are_events.{whole_of, IsFollowed}
use Rattle.osi_blameless.proofs.small_facts_that_many_lemmas_use.{none_some, all_front, early_lasts}
use Rattle.osi_blameless.proofs.putting.a_called_end_answers_with_class_2_or_selects_class_0.{answers_or_selects}
use Rattle.osi_blameless.proofs.putting.a_turn_does_what_its_deeds_say.{turn_uses}
use Rattle.osi_blameless.proofs.in_class_0.an_end_answers_with_class_0.{StandsAnswering, first}
use Rattle.osi_blameless.proofs.in_class_0.an_end_stands_before_a_class_is_selected.{StandInNone, none_turns}
use Rattle.osi_blameless.proofs.putting.each_reference_of_an_end_is_new.{GoesOn, IsAhead, turns_ahead}
use Rattle.osi_blameless.proofs.in_class_0.units_of_class_0_come_after_its_cc.{IsQuiet, quiet_none}
use Rattle.osi_blameless.proofs.putting.ccs_among_units.{AnswersTwo}
use Rattle.osi_blameless.proofs.in_class_0.what_a_turn_puts_at_the_connections_that_are_open.{IsPlainDt, WasOpen, agree_one, all_marked}
use Rattle.osi_blameless.proofs.in_class_0.what_a_turn_puts_at_the_connections_that_are_open.{open_before, puts_cc, takes_cc, then_open}
use Rattle.osi_blameless.proofs.putting.what_a_turn_puts_goes_to_its_peer.{all_back, all_so, one_of}
use Rattle.osi_blameless.proofs.putting.what_a_turn_puts_waits.{marks_wait}
use Rattle.osi_blameless.proofs.coming.what_an_end_takes_at_each_stage.{AreCalm, turn_takes}
use Rattle.osi_blameless.proofs.standing.what_is_in_flight_to_an_end.{parts_taken}
use Rattle.osi_blameless.proofs.standing.what_stands_of_a_connection.{is_for, waiting_for}
use Rattle.osi_blameless.proofs.in_class_0.what_the_stage_of_a_whole_end_says.{IsDt0, all_data}
use Rattle.osi_blameless.proofs.steps.what_the_turns_among_steps_do.{TurnDoes}
use Rattle.osi_blameless.proofs.transport.small_facts_that_many_lemmas_use.{no_list}

-- ---- small facts

never : {A : Type 0} → false ≡ true → A
never e = absurd (cc)

none_named : {A : Type 0} (o : Option ℕ) (r : ℕ) → o ≡ Some r → o ≡ None → A
none_named o r h e = absurd (cc)

none_first : (xs ys : List Part) → [] ≡ xs ++ ys → xs ≡ []
none_first [] ys e = refl
none_first (x ∷ xs) ys e = absurd (cc)

same_later : (u v : Value) (us vs : List Value) → u ∷ us ≡ v ∷ vs → us ≡ vs
same_later u v us vs e = cc

-- nothing was taken before, and nothing now
none_taken : (a b : Deeds) → parts_in a.calls ≡ [] → parts_in b.calls ≡ [] → parts_in (then_did a b).calls ≡ []
none_taken a b before now = grind (arith, parts_taken, taken_more, flat_map-append)

-- ---- what a called end has put after its CC of class 0

module _ (local : Local) (j : Joint) (f : IsFollowed Right (first local) j) (n : ℕ) (x : Connect) (rest : List Value)
    (put : j.put ≡ confirm n x ∷ rest) where
  pub dts_after : Selecting local (whole_of f) → AllByRecursion IsDt0 rest
  dts_after z =
      let limit = unit_octets z.size - 3 in
      subst (AllByRecursion IsDt0) (same_later _ _ z.more rest (sym z.put ∙ put))
      (all_data limit 0 z.more (zero_puts limit f.end 0 z.more z.end))

  selects : IsFirm j.judge.traffic.course → j.judge.traffic.course.class ≡ None →
      HaveSamePlaces j.judge.traffic.connections j.judge.sessions.live → (x.class ≡ 2 → ⊥) → Selecting local (whole_of f)
  selects sure class places not =
      by (answers_or_selects local j f
      (grind (arith, none_some)) places)
    where
      by : AllByRecursion AnswersTwo j.put ⊎ Selecting local (whole_of f) → Selecting local (whole_of f)
      by (inl two) = absurd (not (subst (AllByRecursion AnswersTwo) put two).0)
      by (inr z) = z

-- ---- a turn

module _ (local : Local) (turn : Turn) (old new : Joint) (t : TakesTurn turn old new) (deeds : ℕ → Deeds)
    (does : TurnDoes false deeds turn old new t) where
  abbrev end : Carrier
  end = old.end.end.carrier

  abbrev then_end : Carrier
  then_end = new.end.end.carrier

  abbrev coming : List Value
  coming = units_in old.coming

  abbrev then_deeds : ℕ → Deeds
  then_deeds = λ r. then_did (deeds r) (does.on.more r)

  turn_put : new.put ≡ old.put ++ all_units does.on.put
  turn_put = t.put ∙ ap (λ (l : List Value). old.put ++ l) does.units

  -- no CC is taken
  pub no_cc_taken : {A : Type 0} (q n : ℕ) (x : Connect) (some later : List Marked) → AllByRecursion IsQuiet coming →
      stage_at q end ≡ early → does.on.took ≡ some ++ (0, confirm n x) ∷ later → A
  no_cc_taken q n x some later quiet may is =
      let u = turn_uses turn old new t false deeds does.on (early_lasts q end may) in
      absurd (one_of IsQuiet (all_units some) (all_units later) (confirm n x)
      (grind (arith, all_units_more, all_front)))

  -- ---- with the CC that waits then

  module _ (a : IsAhead Right (first local) new) (n : ℕ) (x : Connect) (rest : List Value)
      (put : new.put ≡ confirm n x ∷ rest) (not_two : x.class ≡ 2 → ⊥) (positive : 0 < x.source) (e : StandInNone Right deeds old)
      (some : old.begun ≡ true → old.put ≢ [])
      (waits : (deeds x.source).put ≡ waiting_for (Some n) old.put) (unheard : parts_in (deeds x.source).calls ≡ [])
      (dts : AllByRecursion IsDt0 rest)
      (is_x : (q : ℕ) → 0 < q → WasOpen false q (stage_at q end) does.on.took does.on.put → q ≡ x.source) where
    links : AllByRecursion IsPlainDt (all_units does.on.put)
    links = grind (arith, all_back, turn_put, never, all_so, dts)

    then_waits : (then_deeds x.source).put ≡ waiting_for (Some n) new.put
    then_waits =
        let marks = all_marked false turn old new t deeds does x.source is_x in
        let now = does.on.own x.source positive
        ∙ marks_wait x.source (Some n) does.on.put (agree_one x.source (Some n) positive refl does.on.put marks does.on.by_links links) in
        (λ i. waits i ++ now i) ∙ sym (picked_join (is_for (Some n)) old.put (all_units does.on.put)) ∙ ap (waiting_for (Some n))
        (sym turn_put)

    -- nothing is for it among what comes
    calm : (q : ℕ) → stage_at q end ≡ early → AreCalm false q (stage_at q then_end) does.on.took
    calm q may front back is ends =
        let u = turn_uses turn old new t false deeds does.on (early_lasts q end may) in
        let quiet = e.quiet in
        quiet_none q (all_units front)
        (grind (arith, all_front, all_units_more))

    then_unheard : parts_in (then_deeds x.source).calls ≡ []
    then_unheard =
        let k = turn_takes false turn old new t deeds does.on x.source positive (does.life x.source positive) (calm x.source) []
        (λ live. sym (ap parts_of (quiet_none x.source coming e.quiet))) in
        none_taken (deeds x.source) (does.on.more x.source) unheard (none_first (parts_in (does.on.more x.source).calls) k.rest k.first)

    pub turns_waiting : StandsAnswering local then_deeds new
    turns_waiting = record {
      ahead = a;
      n = n;
      x = x;
      rest = rest;
      put = put;
      not_two = not_two;
      positive = positive;
      none = none_turns Right turn old new t deeds does.on.more (record {
        puts = λ i c j r there here named live. none_named (Some r) r refl (sym named ∙ e.new.live i j here);
        takes = λ r one later known.
            let k = turn_takes false turn old new t deeds does.on r known.0 (does.life r known.0) (calm r) later known.1 in
            record { rest = k.rest; first = k.first; sure = (known.0, k.sure) };
      }) some e;
      waits = then_waits;
      unheard = then_unheard;
      amid_is = λ q peer more is. is_x q more (then_open false turn old new t deeds does q peer more is);
    }

  -- ---- the CC was put before

  module _ (sure : IsFirm old.judge.traffic.course) (h : StandsAnswering local deeds old) where
    g : GoesOn Right (first local) h.ahead.bound new
    g = turns_ahead Right (first local) turn old new t h.ahead

    then_put : new.put ≡ confirm h.n h.x ∷ (h.rest ++ all_units does.on.put)
    then_put = turn_put ∙ ap (λ (l : List Value). l ++ all_units does.on.put) h.put

    dts : AllByRecursion IsDt0 (h.rest ++ all_units does.on.put)
    dts =
        let f = g.ahead.followed in
        dts_after local new f h.n h.x (h.rest ++ all_units does.on.put) then_put
        (selects local new f h.n h.x (h.rest ++ all_units does.on.put) then_put
        (subst (λ (c : Passed). IsFirm c.traffic.course) (sym t.course) sure)
        (ap (λ (c : Passed). c.traffic.course.class) t.course ∙ h.none.class)
        (subst (λ (c : Passed). HaveSamePlaces c.traffic.connections c.sessions.live) (sym t.course) h.none.all.places) h.not_two)

    -- no other CC is put
    is_x : (q : ℕ) → 0 < q → WasOpen false q (stage_at q end) does.on.took does.on.put → q ≡ h.x.source
    is_x q more (open_before peer is) = h.amid_is q peer more is
    is_x q more (puts_cc called n x front later source is) =
        absurd (one_of IsDt0 (all_units front) (all_units later) (confirm n x)
        (grind (arith, all_units_more, all_back, dts)))
    is_x q more (takes_cc may x front later is) = no_cc_taken q q x front later h.none.quiet may is

    pub turns_answering : StandsAnswering local then_deeds new
    turns_answering =
        turns_waiting g.ahead h.n h.x (h.rest ++ all_units does.on.put) then_put h.not_two h.positive h.none
        (λ begun none. no_list (confirm h.n h.x) h.rest (sym h.put ∙ none)) h.waits h.unheard dts is_x
