-- An end of class 2 is ready for each CC of it that passes: what waits after it is all that was put at its connection, nothing was taken
-- there, nothing in flight is for it, and its reference is new. And what passes and turns keep it so, also if a connection has lost its
-- judgement.
-- For all connections of an end and a judge.
use Rattle.osi_blameless.proofs.Vocabulary.{◌≡◌, ◌∙◌, ◌⊎◌, inl, inr, refl, sym, ap, subst, ℕ, ◌<◌, ◌≤◌, Bool, false, List, [], ◌∷◌}
use Rattle.osi_blameless.proofs.Vocabulary.{◌++◌, Some, None, Option, IsSome, arith, if◌then◌else◌, is_some, slice_get, leb-false, leb-true}
use Rattle.osi_blameless.proofs.Vocabulary.{AllByRecursion, Value, acknowledge, confirm, data0, data2, disconnect, disconnected, error}
use Rattle.osi_blameless.proofs.Vocabulary.{request, Class, Two, Zero, Local, Standing, link_of, value_at, EndReason, Right, Connection}
use Rattle.osi_blameless.proofs.Vocabulary.{is_refused, has_given, Whole, picked_join, picked_rest, AreApart, Deeds, then_did, units_in}
use Rattle.osi_blameless.proofs.Vocabulary.{units_taken, Marked, all_units, units_at, Turn, over_acts, Life, WhenPast, amid, early, past}
use Rattle.osi_blameless.proofs.Vocabulary.{stage_at, stage_by, stage_is, stage_over, all_units_more, taken_more, Sessions, Course, Joint}
use Rattle.osi_blameless.proofs.Vocabulary.{Steps, TakesTurn, passes_own, parts_of, HaveSamePlaces, differ, IsOngoing, Rise}
use Rattle.osi_carrier.specs.State.{Connection as Live, State as Carrier, asked}
use Rattle.osi_blameless.specs.transport.Wholes as wholes
use Rattle.osi_blameless.proofs.ends.links.how_long_a_connection_is_open.{Stage}
use Rattle.osi_blameless.proofs.keeping.a_carrier_does_events.{none_of}
use Rattle.osi_blameless.proofs.small_facts_that_many_lemmas_use.{amid_not, early_lasts, given_so, past_not}
use Rattle.osi_blameless.proofs.keeping.steps_are_events.{whole_of, IsFollowed}
use Rattle.osi_blameless.proofs.putting.a_whole_end_runs_along.{HasLines, has_lines}
use Rattle.osi_blameless.proofs.putting.a_called_end_of_class_2_puts_no_dt_of_class_0.{none_of_zero_put}
use Rattle.osi_blameless.proofs.in_class_2.an_end_of_class_2_goes_on.{OwnInTwo}
use Rattle.osi_blameless.proofs.putting.a_turn_does_what_its_deeds_say.{turn_leaves, turn_uses}
use Rattle.osi_blameless.proofs.shown.a_unit_is_joined_where_it_is_named.{joined_any}
use Rattle.osi_blameless.proofs.standing.all_connections_stand.{there_too}
use Rattle.osi_blameless.proofs.putting.each_cc_of_a_called_end_opens_another_connection.{put_ordered}
use Rattle.osi_blameless.proofs.putting.each_reference_of_an_end_is_new.{GoesOn, IsAhead, above_unused}
use Rattle.osi_blameless.proofs.putting.each_reference_of_an_end_is_new.{passes_above}
use Rattle.osi_blameless.proofs.putting.each_reference_of_an_end_is_new.{passes_own_ahead, turns_ahead, IsUpTo}
use Rattle.osi_blameless.proofs.putting.by_its_places_each_unit_of_an_end_has_a_home.{OpensByNoCc, units_marked}
use Rattle.osi_blameless.proofs.putting.each_unit_of_a_turn_has_one_connection.{HasHome, IsMarked}
use Rattle.osi_blameless.proofs.coming.nothing_comes_before_a_cc_passes.{IsBelow, below_higher, none_waits}
use Rattle.osi_blameless.proofs.putting.nothing_is_done_before_a_cr_passes.{known_from, may_take}
use Rattle.osi_blameless.proofs.putting.references_of_an_end_are_distinct.{GivesNew, IsUnused}
use Rattle.osi_blameless.proofs.putting.ccs_among_units.{AnswersTwo, AreOrdered, HasCc, IsCc, has_either}
use Rattle.osi_blameless.proofs.putting.ccs_among_units.{has_above}
use Rattle.osi_blameless.proofs.transport.requests.units_that_wait_give_references_above_those_that_passed.{given_among}
use Rattle.osi_blameless.proofs.putting.ccs_among_units.{has_back, has_front, none_before, not_twice}
use Rattle.osi_blameless.proofs.putting.what_a_turn_puts_goes_to_its_peer.{IsNotZero, all_back, turn_puts}
use Rattle.osi_blameless.proofs.coming.what_an_end_takes_at_a_connection.{apart_none, during_taken}
use Rattle.osi_blameless.proofs.standing.what_is_in_flight_to_an_end.{parts_taken}
use Rattle.osi_blameless.proofs.standing.what_is_left_for_an_end.{left_empty}
use Rattle.osi_blameless.proofs.standing.what_passes_leaves_all_standing.{IsReady}
use Rattle.osi_blameless.proofs.standing.what_stands_of_a_connection.{is_for, waiting_for}
use Rattle.osi_blameless.proofs.putting.what_waits_after_the_ccs_of_a_called_end.{named, none_put, puts_for}
use Rattle.osi_blameless.proofs.steps.what_the_turns_among_steps_do.{TurnDoes}
use Rattle.osi_rules.specs.declared.directions.Direction.TheVariants as way
use Rattle.osi_blameless.proofs.transport.small_facts_that_many_lemmas_use.{is_false as not_so}

-- ---- small facts

none_both : (xs ys : List Value) → xs ++ ys ≡ [] → (xs ≡ []) × (ys ≡ [])
none_both [] ys e = (refl, e)
none_both (x ∷ xs) ys e = absurd (cc)

-- a CC gives such a reference
gives_so : (n r b : ℕ) (v : Value) → IsCc n r v → IsUpTo Right b v → r ≤ b
gives_so n r b v h up = grind arith

-- a CC gives a new reference
one_new : (t : Sessions) (v : Value) → ((n r : ℕ) → IsCc n r v → IsUnused Right r t) → GivesNew Right v t
one_new t (confirm m x) unused = unused m x.source (refl, refl)
one_new t (request x) unused = tt
one_new t (disconnect m source reason user) unused = tt
one_new t (disconnected m source) unused = tt
one_new t (data0 end user) unused = tt
one_new t (data2 m number end user) unused = tt
one_new t (acknowledge credit m number) unused = tt
one_new t (error m cause) unused = tt

no_zero : (o : Option Class) → (o ≡ None) ⊎ (o ≡ Some Two) → o ≡ Some Zero → ⊥
no_zero o h e = grind arith

past_none : (r : ℕ) (s t : Stage) (took put : List Marked) → s ≡ past → Life false r s took put t → units_at r took ≡ []
past_none r s t took put e life = grind (arith, apart_none)

-- of a connection that has lost its judgement left knows no refusal
abbrev pub AreKnown : Course → Type 0
AreKnown c = (i : ℕ) (e : Connection) → slice_get c.traffic.connections i ≡ Some e → e.is_judged ≡ false →
    is_refused e.seen_by_left.phase ≡ false

-- a connection that the end does not have open is at no such stage
not_amid : {A : Type 0} (peer : ℕ) (over given : Bool) (o : Option Live) →
    (if◌then◌else◌ {A = Option (ℕ × Standing)} over None (link_of o)) ≡ None → stage_by over given o ≡ amid peer → A
not_amid peer over given o shut is = grind arith

-- a connection that may open at a called end has no reference yet
early_not_given : (r : ℕ) (c : Carrier) → c.ended ≡ None → ((m : ℕ) → value_at m c.live ≡ Some asked → ⊥) → stage_at r c ≡ early →
    has_given r c ≡ false
early_not_given r c lasts none may = grind (arith, amid_not, stage_at, stage_is, past_not)

above_given : (r : ℕ) (c : Carrier) → 0 < r → has_given r c ≡ false → c.given < r
above_given r c some not = grind (arith, differ, given_so, leb-true, leb-false)

-- ---- a called end and a judge

module _ (local : Local) where
  abbrev pub first : Whole
  first = wholes.begin false local

  -- such a reference is above all that the judge knows
  pub early_above : (deeds : ℕ → Deeds) (j : Joint) (h : OwnInTwo Right local deeds j) →
      IsOngoing j.judge.traffic.course → (r : ℕ) → 0 < r → stage_at r j.end.end.carrier ≡ early → h.ahead.bound < r
  early_above deeds j h clear r some may =
      let f = h.ahead.followed in
      let lasts = none_of f.end.ended (sym f.like.over ∙ ap is_some (early_lasts r j.end.end.carrier may)) in
      let there : stage_at r f.end ≡ early = ap (stage_at r) (f.like.lasts lasts) ∙ may in
      let given = early_not_given r f.end lasts (has_lines local j f clear h.holds.two).end.none there in
      let up = h.ahead.above.given in grind (arith, above_given, up)

  -- a CC that waits is above all references at the judge
  pub waits_above : (j : Joint) (h : IsAhead Right first j) → (n r : ℕ) → HasCc n r j.put → h.bound < r
  waits_above j h n r has =
      has_above h.bound n r j.put h.above.rise has

  -- ---- a unit that passes

  pub is_ready : (deeds : ℕ → Deeds) (at : ℕ) (unit : Value) (old new : Joint) → Steps Right (passes_own at unit) old new →
      HaveSamePlaces old.judge.traffic.connections old.judge.sessions.live → AreKnown old.judge → OwnInTwo Right local deeds old →
      IsReady Right deeds (known_from (may_take old.end.end.carrier) (units_in old.coming)) unit new.put old.judge.traffic
      old.judge.sessions
  is_ready deeds at (confirm m x) old new (read, octets, (put, begun, is)) places known h =
      let less = passes_above Right first at (confirm m x) x.source refl old new (read, octets, (put, begun, is)) h.ahead in
      let has : HasCc m x.source old.put = subst (HasCc m x.source) (sym put) (inl (refl, refl)) in
      let all : (deeds x.source).put ≡ waiting_for (Some m) new.put =
      h.holds.waits m x.source has ∙ ap (waiting_for (Some m)) put in
      let none = h.holds.unheard x.source less in (
        λ p j place here.
            let (c, there) = there_too old.judge.traffic.connections old.judge.sessions.live p j places here in
            grind (arith, waiting_for, joined_any Right (confirm m x) old.judge m p c j places refl place there (known p c there) here),
        parts_taken (deeds x.source).calls ∙ ap parts_of none,
        search (arith, left_empty, none_waits),
      )
  is_ready deeds at (request x) old new step places known h = tt
  is_ready deeds at (disconnect n source reason user) old new step places known h = tt
  is_ready deeds at (disconnected n source) old new step places known h = tt
  is_ready deeds at (data0 end user) old new step places known h = tt
  is_ready deeds at (data2 n number end user) old new step places known h = tt
  is_ready deeds at (acknowledge credit n number) old new step places known h = tt
  is_ready deeds at (error n cause) old new step places known h = tt

  -- ---- a unit of it passes

  spent_next : (deeds : Deeds) (b r : ℕ) (unit : Value) (rest : List Value) → IsUpTo Right b unit → b < r →
      (deeds.put ≡ []) ⊎ ((n : ℕ) × HasCc n r (unit ∷ rest)) → (deeds.put ≡ []) ⊎ ((n : ℕ) × HasCc n r rest)
  spent_next deeds b r unit rest up less h = grind (arith, gives_so)

  pub own_passes : (deeds : ℕ → Deeds) (at : ℕ) (unit : Value) (old new : Joint) →
      Steps Right (passes_own at unit) old new → HaveSamePlaces old.judge.traffic.connections old.judge.sessions.live →
      OwnInTwo Right local deeds old → OwnInTwo Right local deeds new
  own_passes deeds at unit old new step places h =
      let p = passes_own_ahead Right first at unit old new step places h.ahead in
      let g = p.on in
      let put = step.2.0 in
      let ordered : AreOrdered (unit ∷ new.put) = subst AreOrdered put h.holds.ordered in
      record {
        ahead = g.ahead;
        holds = record {
          below = below_higher h.ahead.bound g.ahead.bound (units_in new.coming) g.rises
              (subst (λ (j : Joint). AllByRecursion (IsBelow h.ahead.bound) (units_in j.coming)) (sym step.2.2) h.holds.below);
          unheard = λ r less. h.holds.unheard r (omega (arith, less));
          waits = λ n r has.
              h.holds.waits n r (subst (HasCc n r) (sym put) (inr has)) ∙ ap (waiting_for (Some n)) put
              ∙ picked_rest (is_for (Some n)) unit new.put (not_so (is_for (Some n) unit) (λ e. ordered.0 n r e has));
          spent = λ r less.
              spent_next (deeds r) g.ahead.bound r unit new.put p.up less
              (subst (λ (l : List Value). ((deeds r).put ≡ []) ⊎ ((n : ℕ) × HasCc n r l)) put
              (h.holds.spent r (omega (arith, less))));
          ordered = ordered.1;
          two = (subst (AllByRecursion AnswersTwo) put h.holds.two).1;
        };
      }

  -- ---- a turn, with what was done at each connection

  module _ (turn : Turn) (old new : Joint) (t : TakesTurn turn old new) (deeds : ℕ → Deeds)
      (does : TurnDoes false deeds turn old new t)
      (places : HaveSamePlaces old.judge.traffic.connections old.judge.sessions.live) (clear : IsOngoing old.judge.traffic.course)
      (h : OwnInTwo Right local deeds old) (turn_two : AllByRecursion AnswersTwo new.put) where
    abbrev carrier : Carrier
    carrier = old.end.end.carrier

    abbrev f : IsFollowed Right first old
    f = h.ahead.followed

    g : GoesOn Right first h.ahead.bound new
    g = turns_ahead Right first turn old new t h.ahead

    turn_put : new.put ≡ old.put ++ all_units does.on.put
    turn_put = t.put ∙ ap (λ (l : List Value). old.put ++ l) does.units

    before : HasLines local (whole_of f)
    before = has_lines local old f clear h.holds.two

    after : HasLines local (whole_of g.ahead.followed)
    after = has_lines local new g.ahead.followed (grind arith) turn_two

    -- the reference of a CC that waits now
    above_old : (n r : ℕ) → HasCc n r new.put → h.ahead.bound < r
    above_old n r has = grind (arith, g, waits_above new g.ahead n r has)

    home_low : (i j : ℕ) → HasHome Right i j old.judge.traffic old.judge.sessions → i ≤ h.ahead.bound
    home_low i j home = (h.ahead.below.live home.place home.joined i home.here home.mine).1

    -- a CC that has come is for a reference of the judge: the end has answered its connection, or closed it
    no_cc : OpensByNoCc local deeds turn old new t does.on f
    no_cc lasts q some shut n x is come = by (stage_at q carrier) refl
      where
        low : n ≤ h.ahead.bound
        low = come (IsBelow h.ahead.bound)
            (subst (AllByRecursion (IsBelow h.ahead.bound)) (sym (f.coming lasts)) h.holds.below)

        by : (s : Stage) → stage_at q carrier ≡ s → AreApart q does.on.put
        by early may = let over = early_above deeds old h clear q some may in absurd (omega (arith, low, is, over))
        by (amid peer) here = not_amid peer (is_some carrier.ended) (has_given q carrier) (value_at q carrier.live) shut here
        by past gone =
            let w : WhenPast q does.on.took does.on.put (stage_at q new.end.end.carrier) =
            subst (λ (s : Stage). Life false q s does.on.took does.on.put (stage_at q new.end.end.carrier)) gone (does.life q some) in
            w.none_put

    turn_ordered : AreOrdered new.put
    turn_ordered =
        put_ordered local (whole_of g.ahead.followed) new.judge.sessions after (grind (arith, g))

    put_more : (n r : ℕ) → HasCc n r new.put → (does.on.more r).put ≡ waiting_for (Some n) (all_units does.on.put)
    put_more n r has = search (arith, puts_for, g, before, after, no_cc, home_low, above_old)

    -- nothing was put there before the CC
    none_put_before : (n r : ℕ) → HasCc n r (all_units does.on.put) → h.ahead.bound < r →
        ((deeds r).put ≡ []) ⊎ ((m : ℕ) × HasCc m r old.put) → (deeds r).put ≡ []
    none_put_before n r has less (inl none) = none
    none_put_before n r has less (inr (m, waited)) =
        not_twice g.ahead.bound m n r old.put (all_units does.on.put)
        (subst (λ (l : List Value). Rise g.ahead.bound (given_among way.Right l)) turn_put g.ahead.above.rise) waited
        has

    waits_by : (n r : ℕ) → HasCc n r new.put → HasCc n r old.put ⊎ HasCc n r (all_units does.on.put) →
        (deeds r).put ++ (does.on.more r).put ≡ waiting_for (Some n) (old.put ++ all_units does.on.put)
    waits_by n r has (inl waited) =
        (λ i. h.holds.waits n r waited i ++ put_more n r has i) ∙ sym (picked_join (is_for (Some n)) old.put (all_units does.on.put))
    waits_by n r has (inr put) =
        let less = above_old n r has in
        (λ i. none_put_before n r put less (h.holds.spent r less) i ++ put_more n r has i)
        ∙ ap (λ (l : List Value). l ++ waiting_for (Some n) (all_units does.on.put))
        (sym (none_before n r old.put (all_units does.on.put) (subst AreOrdered turn_put turn_ordered) put))
        ∙ sym (picked_join (is_for (Some n)) old.put (all_units does.on.put))

    turn_waits : (n r : ℕ) → HasCc n r new.put → (then_did (deeds r) (does.on.more r)).put ≡ waiting_for (Some n) new.put
    turn_waits n r has =
        waits_by n r has (has_either n r old.put (all_units does.on.put) (subst (HasCc n r) turn_put has))
        ∙ ap (waiting_for (Some n)) (sym turn_put)

    -- ---- a connection whose CC has not passed

    module _ (r : ℕ) (less : h.ahead.bound < r) where
      some : 0 < r
      some = omega (arith, less)

      taken_by : (o : Option EndReason) → carrier.ended ≡ o → units_at r does.on.took ≡ []
      taken_by None lasts =
          let s = turn_uses turn old new t false deeds does.on lasts in
          let l = does.on.lives r some in
          let none : waiting_for (Some r) (all_units does.on.took ++ (s.left ++ units_in new.coming)) ≡ [] =
          ap (waiting_for (Some r)) (sym s.coming) ∙ none_waits h.ahead.bound r (units_in old.coming) less h.holds.below in
          grind (arith, waiting_for, none_both, picked_join, is_for, all_units_more, during_taken)
      taken_by (Some reason) over = grind (arith, past_none, stage_at, stage_over, some)

      turn_unheard : units_taken (then_did (deeds r) (does.on.more r)).calls ≡ []
      turn_unheard = grind (arith, taken_more, some, taken_by)

      spent_by : ((deeds r).put ≡ []) ⊎ ((n : ℕ) × HasCc n r old.put) →
          AreApart r does.on.put ⊎ (HasCc (does.on.lives r some).peer r new.put
          ⊎ HasHome Right r (does.on.lives r some).peer old.judge.traffic old.judge.sessions) →
          ((then_did (deeds r) (does.on.more r)).put ≡ []) ⊎ ((n : ℕ) × HasCc n r new.put)
      spent_by (inr (n, waited)) k =
          inr (n, subst (HasCc n r) (sym turn_put) (has_front n r old.put (all_units does.on.put) waited))
      spent_by (inl none) (inl apart) = inl (λ i. none i ++ (does.on.own r some ∙ apart_none r does.on.put apart) i)
      spent_by (inl none) (inr (inl has)) = inr ((does.on.lives r some).peer, has)
      spent_by (inl none) (inr (inr home)) =
          let low = home_low r (does.on.lives r some).peer home in absurd (omega (arith, low, less))

      turn_spent : ((then_did (deeds r) (does.on.more r)).put ≡ []) ⊎ ((n : ℕ) × HasCc n r new.put)
      turn_spent =
          spent_by (h.holds.spent r less)
          (search (arith, named, g, before, after, no_cc, some))

    -- ---- each unit of the turn has a home

    all_new : (vs : List Value) → ((n r : ℕ) → HasCc n r vs → IsUnused Right r old.judge.sessions) →
        AllByRecursion (λ (v : Value). GivesNew Right v old.judge.sessions) vs
    all_new [] unused = tt
    all_new (v ∷ vs) unused = grind (arith, one_new, all_new vs (λ n r has. unused n r (inr has)))

    news : AllByRecursion (λ (v : Value). GivesNew Right v old.judge.sessions) (all_units does.on.put)
    news =
        all_new (all_units does.on.put)
        (λ n r has. above_unused Right h.ahead.bound r old.judge.sessions h.ahead.below
        (above_old n r (subst (HasCc n r) (sym turn_put) (has_back n r old.put (all_units does.on.put) has))))

    pub turn_homed : AllByRecursion (IsMarked Right old.judge.traffic old.judge.sessions) does.on.put
    turn_homed = by carrier.ended refl
      where
        by : (o : Option EndReason) → carrier.ended ≡ o → AllByRecursion (IsMarked Right old.judge.traffic old.judge.sessions) does.on.put
        by None lasts =
            units_marked local deeds turn old new t does.on f before places news
            (turn_puts Right first turn old new t (all_units does.on.put) does.units g.ahead.followed IsNotZero
            (none_of_zero_put local (whole_of g.ahead.followed) after.called)) no_cc
        by (Some reason) gone =
            let done = over_acts turn old.end new.end (subst IsSome (sym gone) refl) t.takes in
            grind (arith, none_put)

    -- ---- all of it

    pub turns_own : OwnInTwo Right local (λ r. then_did (deeds r) (does.on.more r)) new
    turns_own =
        let rises = g.rises in
        record {
          ahead = g.ahead;
          holds = record {
            below = below_higher h.ahead.bound g.ahead.bound (units_in new.coming) g.rises
                (all_back (IsBelow h.ahead.bound) (units_in t.used) (units_in new.coming)
                (subst (AllByRecursion (IsBelow h.ahead.bound)) (turn_leaves turn old new t) h.holds.below));
            unheard = λ r less. turn_unheard r (omega (arith, less, rises));
            waits = turn_waits;
            spent = λ r less. turn_spent r (omega (arith, less, rises));
            ordered = turn_ordered;
            two = turn_two;
          };
        }
