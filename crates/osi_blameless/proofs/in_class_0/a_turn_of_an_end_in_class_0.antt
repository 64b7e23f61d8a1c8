-- Once class 0 is selected, a turn of an end leaves all its connections standing at a judge: what it puts is for its one connection, and
-- what it takes there is the first of what is in flight. And no session of it is to blame then. For the session of the connection of an end
-- in class 0.
use Rattle.osi_blameless.proofs.Vocabulary.{◌≡◌, ◌∙◌, refl, sym, ap, subst, ℕ, ◌<◌, Bool, true, false, List, ◌∷◌, ◌++◌, Option, Some, inl}
use Rattle.osi_blameless.proofs.Vocabulary.{inr, ◌⊎◌, ◌==◌, slice_get, AllByRecursion, eqb-true, Connect, Value, confirm, Local, Direction}
use Rattle.osi_blameless.proofs.Vocabulary.{Left, Right, other, Connection, is_open, own, State, unlike, IsFirm, Deeds, then_did, units_in}
use Rattle.osi_blameless.proofs.Vocabulary.{Marked, all_units, Turn, early, past, stage_at, all_units_more, Joined, reference_of, Joint}
use Rattle.osi_blameless.proofs.Vocabulary.{TakesTurn, IsOneOf, calls_from, way_of, is_of_link, Time}
use Rattle.osi_carrier.specs.State.{State as Carrier}
use Rattle.osi_blameless.specs.transport.Wholes as wholes
use Rattle.osi_judge.specs.Courses.{Course as Passed}
use Rattle.osi_blameless.proofs.small_facts_that_many_lemmas_use.{all_front, early_lasts, past_not, same_one, none_first}
use Rattle.osi_blameless.proofs.standing.a_dt_of_class_0_has_one_place.{IsOnly, both_named, other_none}
use Rattle.osi_blameless.proofs.putting.a_turn_does_what_its_deeds_say.{turn_leaves, turn_uses}
use Rattle.osi_blameless.proofs.standing.a_turn_leaves_all_standing.{IsOfOne, Turns, of_done, of_live}
use Rattle.osi_blameless.proofs.standing.all_connections_stand.{one_at}
use Rattle.osi_blameless.proofs.in_class_0.an_end_stands_in_class_0.{AllInZero, IsGone, StandsInZero, known_in, place_of_one}
use Rattle.osi_blameless.proofs.in_class_0.an_end_stands_in_class_0.{within_higher}
use Rattle.osi_blameless.proofs.in_class_0.class_0_keeps_its_one_place.{HasOne, still_gone}
use Rattle.osi_blameless.proofs.putting.each_reference_of_an_end_is_new.{GoesOn, IsWithin, turns_ahead}
use Rattle.osi_blameless.proofs.standing.each_step_leaves_class_0_one_connection.{Sure, is_zero}
use Rattle.osi_blameless.proofs.standing.steps_leave_all_standing.{step_turns}
use Rattle.osi_blameless.proofs.in_class_0.units_of_class_0_come_after_its_cc.{InOrder, IsCcFor, order_back, order_calm}
use Rattle.osi_blameless.proofs.in_class_0.what_a_turn_puts_at_the_connections_that_are_open.{WasOpen, agree_apart, agree_one, all_marked}
use Rattle.osi_blameless.proofs.in_class_0.what_a_turn_puts_at_the_connections_that_are_open.{open_before, past_apart, puts_cc}
use Rattle.osi_blameless.proofs.in_class_0.what_a_turn_puts_at_the_connections_that_are_open.{still_past, takes_cc, then_open}
use Rattle.osi_blameless.proofs.putting.what_a_turn_puts_goes_to_its_peer.{all_back, all_so, one_of, turn_puts}
use Rattle.osi_blameless.proofs.putting.what_a_turn_puts_waits.{Agree, marks_wait}
use Rattle.osi_blameless.proofs.coming.what_an_end_takes_at_each_stage.{AreCalm, turn_takes}
use Rattle.osi_blameless.proofs.standing.what_stands_of_a_connection.{waiting_for}
use Rattle.osi_blameless.proofs.in_class_0.what_the_stage_of_a_whole_end_says.{AwaitsCc, IsDt0, stage_of, zero_awaits, zero_put}
use Rattle.osi_blameless.proofs.steps.what_the_turns_among_steps_do.{TurnDoes}
use Rattle.osi_blameless.proofs.keeping.steps_are_events.{whole_of}

-- nothing is for the connection before it opens
calm_of : (d : Direction) (r : ℕ) (s : Time) (took : List Marked) (had others : List Value) → AwaitsCc d had →
    InOrder (all_units took ++ others) → (s ≡ early → AwaitsCc d others) → AreCalm (calls_from d) r s took
calm_of Left r s took had others has order awaits = order_calm r s took others order awaits
calm_of Right r s took had others none order awaits = absurd none

-- ---- a turn

module _ (d : Direction) (local : Local) (turn : Turn) (old new : Joint) (t : TakesTurn turn old new)
    (deeds : ℕ → Deeds) (does : TurnDoes (calls_from d) deeds turn old new t) (sure : IsFirm old.judge.traffic.course)
    (h : StandsInZero d local deeds old) where
  abbrev s : State
  s = old.judge.traffic

  abbrev end : Carrier
  end = old.end.end.carrier

  abbrev then_end : Carrier
  then_end = new.end.end.carrier

  abbrev coming : List Value
  coming = units_in old.coming

  abbrev then_coming : List Value
  then_coming = units_in new.coming

  abbrev z : AllInZero d deeds h.r end old.put old.begun coming old.judge
  z = h.zero

  -- the whole end goes on
  g : GoesOn d (wholes.begin (calls_from d) local) h.ahead.bound new
  g = turns_ahead d (wholes.begin (calls_from d) local) turn old new t h.ahead

  then_firm : IsFirm new.judge.traffic.course
  then_firm = subst (λ (c : Passed). IsFirm c.traffic.course) (sym t.course) sure

  class_then : new.judge.traffic.course.class ≡ old.judge.traffic.course.class
  class_then = ap (λ (c : Passed). c.traffic.course.class) t.course

  then_within : IsWithin g.ahead.bound h.r
  then_within = within_higher h.ahead.bound g.ahead.bound h.r g.rises h.within

  -- all that it puts is DTs
  dts : AllByRecursion IsDt0 (all_units does.on.put)
  dts =
      let all = zero_put d local (whole_of g.ahead.followed) (class_then ∙ z.class) (stage_of d local new g.ahead.followed then_firm) in
      turn_puts d (wholes.begin (calls_from d) local) turn old new t (all_units does.on.put) does.units g.ahead.followed IsDt0 all

  -- what holds of all that had come holds of a CC that was taken
  cc_came : (P : Value → Type 0) (q : ℕ) (x : Connect) (some later : List Marked) → stage_at q end ≡ early →
      does.on.took ≡ some ++ (0, confirm q x) ∷ later → AllByRecursion P coming → P (confirm q x)
  cc_came P q x some later may is all =
      let u = turn_uses turn old new t (calls_from d) deeds does.on (early_lasts q end may) in
      let took = all_front P (all_units does.on.took) (u.left ++ then_coming) (subst (AllByRecursion P) u.coming all) in
      one_of P (all_units some) (all_units later) (confirm q x)
      (subst (AllByRecursion P) (ap all_units is ∙ all_units_more some ((0, confirm q x) ∷ later)) took)

  -- only the one connection is open
  is_r : (q : ℕ) → 0 < q → WasOpen (calls_from d) q (stage_at q end) does.on.took does.on.put → q ≡ h.r
  is_r q some (open_before peer is) = h.amid_is q peer some is
  is_r q some (takes_cc may x front later is) = cc_came (IsCcFor h.r) q x front later may is z.ccs q x refl
  is_r q some (puts_cc called n x front later source is) =
      absurd (one_of IsDt0 (all_units front) (all_units later) (confirm n x)
      (subst (AllByRecursion IsDt0) (ap all_units is ∙ all_units_more front ((0, confirm n x) ∷ later)) dts))

  -- ---- what it puts is for the one connection

  only : IsOnly s
  only = (is_zero Right s z.sure sure.firm sure.right z.class).only

  only_is : only.place ≡ z.one.place
  only_is = place_of_one d h.r (IsGone end) s old.judge.sessions only z.one

  -- what was put at a connection, if the marks agree
  puts_so : (r : ℕ) (o : Option ℕ) → 0 < r → Agree r o does.on.put → (does.on.more r).put ≡ waiting_for o t.units
  puts_so r o some agree = does.on.own r some ∙ marks_wait r o does.on.put agree ∙ ap (waiting_for o) (sym does.units)

  puts_zero : (i : ℕ) (c : Connection) (j : Joined) (r : ℕ) → slice_get s.connections i ≡ Some c →
      slice_get old.judge.sessions.live i ≡ Some j → reference_of d j ≡ Some r → is_open (own (way_of d) c).phase ≡ true →
      (does.on.more r).put ≡ waiting_for (reference_of (other d) j) t.units
  puts_zero i c j r there here mine live = by (i == only.place) refl
    where
      one : IsOneOf c j
      one = one_at s.connections old.judge.sessions.live i c j z.all.places there here

      by : (x : Bool) → (i == only.place) ≡ x → (does.on.more r).put ≡ waiting_for (reference_of (other d) j) t.units
      by true e =
          let same : i ≡ only.place = eqb-true i only.place e in
          let is : c ≡ only.connection = same_one c only.connection (sym there ∙ ap (slice_get s.connections) same ∙ only.there) in
          let mine_too = z.one.mine j (ap (slice_get old.judge.sessions.live) (sym (same ∙ only_is)) ∙ here) in
          let is_it : h.r ≡ r = same_one h.r r (sym mine_too ∙ mine) in
          let some : 0 < r = subst (λ (n : ℕ). 0 < n) is_it h.within.0 in
          puts_so r (reference_of (other d) j) some
          (agree_one r (reference_of (other d) j) some
          (both_named (other d) c j one (ap (λ (y : Connection). is_open y.right.phase) is ∙ only.right)) does.on.put
          (all_marked (calls_from d) turn old new t deeds does r (λ q more was. is_r q more was ∙ is_it)) does.on.by_links
          (all_so IsDt0 (λ v. is_of_link v ≡ true → IsDt0 v) (λ v w link. w) (all_units does.on.put) dts))
      by false e =
          let apart : i ≡ only.place → ⊥ = unlike i only.place e in
          let gone = z.one.others i j r (λ k. apart (k ∙ sym only_is)) here mine in
          puts_so r (reference_of (other d) j) gone.0
          (agree_apart r (reference_of (other d) j) (other_none d c j one (only.others i c there apart) live) does.on.put
          (past_apart (calls_from d) r (stage_at r end) (stage_at r then_end) does.on.took does.on.put gone.1 (does.life r gone.0)))

  -- ---- what it takes there is the first of what is in flight

  calm : stage_at h.r end ≡ early → AreCalm (calls_from d) h.r (stage_at h.r then_end) does.on.took
  calm may =
      let u = turn_uses turn old new t (calls_from d) deeds does.on (early_lasts h.r end may) in
      calm_of d h.r (stage_at h.r then_end) does.on.took coming (u.left ++ then_coming)
      (zero_awaits d local old h.ahead h.r sure z.class h.within may)
      (subst InOrder u.coming z.order)
      (λ still.
      subst (λ (l : List Value). AwaitsCc d (l ++ then_coming)) (sym (u.all (early_lasts h.r then_end still)))
      (zero_awaits d local new g.ahead h.r then_firm (class_then ∙ z.class) then_within still))

  -- every other one is gone
  one_or_gone : (q : ℕ) → IsOfOne d q s old.judge.sessions → (q ≡ h.r) ⊎ (stage_at q end ≡ past)
  one_or_gone q (of_done i j here named) = inr (z.one.done i j q here named).1
  one_or_gone q (of_live i c j there here judged named) = by (i == z.one.place) refl
    where
      by : (x : Bool) → (i == z.one.place) ≡ x → (q ≡ h.r) ⊎ (stage_at q end ≡ past)
      by true e =
          let mine = z.one.mine j (ap (slice_get old.judge.sessions.live) (sym (eqb-true i z.one.place e)) ∙ here) in
          inl (same_one q h.r (sym named ∙ mine))
      by false e = inr (z.one.others i j q (unlike i z.one.place e) here named).1

  calm_by : (q : ℕ) → (q ≡ h.r) ⊎ (stage_at q end ≡ past) → stage_at q end ≡ early →
      AreCalm (calls_from d) q (stage_at q then_end) does.on.took
  calm_by q (inl is) may =
      subst (λ (n : ℕ). AreCalm (calls_from d) n (stage_at n then_end) does.on.took) (sym is)
      (calm (ap (λ (n : ℕ). stage_at n end) (sym is) ∙ may))
  calm_by q (inr gone) may = past_not (stage_at q end) may gone

  turns : Turns d does.on.more (known_in end coming) (known_in then_end then_coming) t.units s old.judge.sessions
  turns = record {
    puts = puts_zero;
    takes = λ q one later known.
        let x = turn_takes (calls_from d) turn old new t deeds does.on q known.0 (does.life q known.0)
        (calm_by q (one_or_gone q one)) later known.1 in
        record { rest = x.rest; first = x.first; sure = (known.0, x.sure) };
  }

  abbrev then_deeds : ℕ → Deeds
  then_deeds = λ r. then_did (deeds r) (does.on.more r)

  then_zero : AllInZero d then_deeds h.r then_end new.put new.begun then_coming new.judge
  then_zero = record {
    sure = subst Sure (sym t.course) z.sure;
    class = class_then ∙ z.class;
    all = (step_turns d deeds (known_in end coming) turn does.on.more (known_in then_end then_coming) old new t h.some turns
        (record { all = z.all })).all;
    one = subst (λ (c : Passed). HasOne d h.r (IsGone then_end) c.traffic c.sessions) (sym t.course)
        (still_gone d h.r (IsGone end) (IsGone then_end) s old.judge.sessions
        (λ q gone. (
          gone.0,
          still_past (calls_from d) q (stage_at q end) (stage_at q then_end) does.on.took does.on.put gone.1 (does.life q gone.0),
        )) z.one);
    ccs = all_back (IsCcFor h.r) (units_in t.used) then_coming (subst (AllByRecursion (IsCcFor h.r)) (turn_leaves turn old new t) z.ccs);
    order = order_back (units_in t.used) then_coming (subst InOrder (turn_leaves turn old new t) z.order);
  }

  pub zero_turns : StandsInZero d local then_deeds new
  zero_turns = record {
    ahead = g.ahead;
    r = h.r;
    within = then_within;
    zero = then_zero;
    amid_is = λ q peer some is. is_r q some (then_open (calls_from d) turn old new t deeds does q peer some is);
    some = λ begun none. h.some (sym t.begun ∙ begun) (none_first old.put t.units (sym t.put ∙ none));
  }
