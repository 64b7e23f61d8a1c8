-- In a turn of a called end of class 2, what is put at a connection whose CC has not passed is those of the units of the turn that are for
-- its reference of the other side. And whatever is put is for a connection that the judge knows, or whose CC is among the units that wait.
-- For all connections of a called end and a judge.
use Rattle.osi_blameless.proofs.Vocabulary.{[], ap, append_assoc, arith, false, inl, inr, IsSome, List, nat_lt, None, Option, refl, Some}
use Rattle.osi_blameless.proofs.Vocabulary.{subst, suc, sym, true, zero, ℕ, ◌++◌, ◌<◌, ◌==◌, ◌∙◌, ◌∷◌, ◌≡◌, ◌≤◌, ◌⊎◌, eq-eqb, eqb-true}
use Rattle.osi_blameless.proofs.Vocabulary.{AllByRecursion, slice_get, confirm, Connect, disconnect, request, Value, Local, packets}
use Rattle.osi_blameless.proofs.Vocabulary.{Carrier, EndReason, Traffic as State, Right, over_acts, Answers, Begins, is_shut, Opens, opens}
use Rattle.osi_blameless.proofs.Vocabulary.{Deeds, all_units, is_of_link, Marked, Turn, Sessions, Joint, TakesTurn}
use Rattle.osi_blameless.proofs.Vocabulary.{HaveSamePlaces, AreApart, Course, differ, number_is}
use Rattle.osi_blameless.specs.transport.Wholes.{begin}
use Rattle.osi_blameless.specs.ends.Arriving.{is_open as opened}
use Rattle.osi_blameless.proofs.small_facts_that_many_lemmas_use.{same_bool}
use Rattle.osi_blameless.proofs.keeping.steps_are_events.{whole_of, IsFollowed}
use Rattle.osi_blameless.proofs.putting.a_whole_end_runs_along.{HasLines}
use Rattle.osi_blameless.proofs.putting.a_called_end_of_class_2_puts_no_dt_of_class_0.{none_of_zero_put}
use Rattle.osi_blameless.proofs.standing.all_connections_stand.{one_at}
use Rattle.osi_blameless.proofs.putting.each_cc_of_a_called_end_opens_another_connection.{none_open_for, open_there, same_destination}
use Rattle.osi_blameless.proofs.putting.each_cc_of_a_called_end_opens_another_connection.{same_source}
use Rattle.osi_blameless.proofs.putting.by_its_places_each_unit_of_an_end_has_a_home.{OpensByNoCc}
use Rattle.osi_blameless.proofs.putting.each_unit_of_a_turn_has_one_connection.{HasHome, IsFor}
use Rattle.osi_blameless.proofs.putting.ccs_among_units.{HasCc, has_back, has_front}
use Rattle.osi_blameless.proofs.putting.what_a_turn_puts_goes_to_its_peer.{GoesTo, IsNotZero, Lived, by_units, came, for_so, goes_to}
use Rattle.osi_blameless.proofs.putting.what_a_turn_puts_goes_to_its_peer.{turn_puts}
use Rattle.osi_blameless.proofs.putting.what_a_turn_puts_goes_to_its_peer.{linked_so, none_for, none_shut, one_of, whole_lasts}
use Rattle.osi_blameless.proofs.putting.what_a_turn_puts_waits.{Agree, marks_wait}
use Rattle.osi_blameless.proofs.standing.what_stands_of_a_connection.{is_for, waiting_for}
use Rattle.osi_blameless.proofs.steps.what_the_turns_among_steps_do.{TurnDoes}

-- ---- small facts

pub none_put : (units : List Marked) → packets (all_units units) ≡ [] → units ≡ []
none_put [] e = refl
none_put (m ∷ units) e = absurd (cc)

-- a DT or an AK for both references
peer_is : (n peer : ℕ) (v : Value) → IsFor peer v → is_for (Some n) v ≡ true → n ≡ peer
peer_is n peer v h e = grind (arith, eqb-true)

-- a CC among marked units
marked_has : (n r : ℕ) (front back : List Marked) (x : Connect) → x.source ≡ r → HasCc n r (all_units (front ++ (0, confirm n x) ∷ back))
marked_has n r [] back x source = inl (refl, source)
marked_has n r (m ∷ front) back x source = inr (marked_has n r front back x source)

-- ---- a turn

module _ (local : Local) (deeds : ℕ → Deeds) (turn : Turn) (old new : Joint) (step : TakesTurn turn old new)
    (does : TurnDoes false deeds turn old new step) (f : IsFollowed Right (begin false local) old)
    (g : IsFollowed Right (begin false local) new) (before : HasLines local (whole_of f)) (after : HasLines local (whole_of g))
    (no_cc : OpensByNoCc local deeds turn old new step does.on f)
    (places : HaveSamePlaces old.judge.traffic.connections old.judge.sessions.live) where
  abbrev s : State
  s = old.judge.traffic

  abbrev t : Sessions
  t = old.judge.sessions

  abbrev carrier : Carrier
  carrier = old.end.end.carrier

  abbrev LivedSo : ℕ → Type 0
  LivedSo q = Lived Right false (begin false local) deeds turn old new step does.on f q

  put_is : new.put ≡ old.put ++ all_units does.on.put
  put_is = step.put ∙ ap (λ (l : List Value). old.put ++ l) does.units

  judge_g : new.judge.traffic ≡ s
  judge_g = ap (λ (c : Course). c.traffic) step.course

  places_g : HaveSamePlaces new.judge.traffic.connections t.live
  places_g = subst (λ (x : State). HaveSamePlaces x.connections t.live) (sym judge_g) places

  -- ---- a connection at which units were put: its CC waits, or the judge knows it

  abbrev IsNamed : (q peer : ℕ) → Type 0
  IsNamed q peer = HasCc peer q new.put ⊎ HasHome Right q peer s t

  open_named : carrier.ended ≡ None → (q : ℕ) → 0 < q → (l : LivedSo q) →
      Begins false q l.peer carrier new.end.end.carrier l.arrived l.left → AreApart q does.on.put ⊎ IsNamed q l.peer
  open_named lasts q positive l (opened link there none none_left) =
      by (open_there local (whole_of f) t before (grind arith)
      (whole_lasts Right false (begin false local) deeds turn old new step does.on f lasts) q l.peer link
      (linked_so Right false (begin false local) deeds turn old new step does.on f lasts q l.peer link there))
    where
      by : HasCc l.peer q old.put ⊎ HasHome Right q l.peer s t → AreApart q does.on.put ⊎ IsNamed q l.peer
      by (inl h) = inr (inl (grind (arith, put_is, has_front)))
      by (inr h) = inr (inr h)
  open_named lasts q positive l (opens shut unit opening front is others answer gives put) = by unit opening gives is
    where
      by : (u : Value) → Opens false q l.peer u → Answers q l.peer u answer → l.arrived.before ≡ front ++ (0, u) ∷ [] →
          AreApart q does.on.put ⊎ IsNamed q l.peer
      by (confirm n x) opening gives come =
          inl (search (arith, came Right false (begin false local) deeds turn old new step does.on f lasts (confirm n x) front q l come))
      by (request x) opening (cc_is, source, one) come =
          let parts : does.on.put ≡ others ++ (0, confirm l.peer cc_is) ∷ (l.left.during ++ l.left.after) = grind (arith, append_assoc) in
          inr (inl (grind (arith, put_is, has_back l.peer q old.put (all_units does.on.put) (grind (arith, marked_has)))))
      by (disconnect n source reason user) h gives come = absurd h
      by _ h gives come = absurd h
  open_named lasts q positive l (is_shut shut then_shut none none_left) =
      inl (none_shut Right false (begin false local) deeds turn old new step does.on f q l none_left)

  -- an end that is over puts nothing
  pub named : (q : ℕ) → 0 < q → (l : LivedSo q) → AreApart q does.on.put ⊎ IsNamed q l.peer
  named q positive l = by carrier.ended refl
    where
      by : (o : Option EndReason) → carrier.ended ≡ o → AreApart q does.on.put ⊎ IsNamed q l.peer
      by None lasts = open_named lasts q positive l l.begins
      by (Some reason) gone =
          let done = over_acts turn old.end new.end (subst IsSome (sym gone) refl) step.takes in
          inl (subst (AreApart q) (sym (none_put does.on.put (sym does.on.written ∙ done.1))) tt)

  -- ---- the marks of the units

  module _ (b : ℕ) (known : (i j : ℕ) → HasHome Right i j s t → i ≤ b) (n r : ℕ) (has : HasCc n r new.put) (above : b < r) where
    class_2 : AllByRecursion IsNotZero (all_units does.on.put)
    class_2 =
        turn_puts Right (begin false local) turn old new step (all_units does.on.put) does.units g IsNotZero
        (none_of_zero_put local (whole_of g) after.called)

    module _ (front rest : List Marked) (m : Marked) (is : does.on.put ≡ front ++ m ∷ rest) where
      at : (P : Marked → Type 0) → AllByRecursion P does.on.put → P m
      at P all = one_of P front rest m (subst (AllByRecursion P) is all)

      -- a unit of the connection is for its peer
      forth_by : (l : LivedSo r) → (m.0 == r) ≡ true → AreApart r does.on.put ⊎ IsNamed r l.peer → is_for (Some n) m.1 ≡ true
      forth_by l e (inl apart) = differ (m.0 == r) e (at (λ (k : Marked). (k.0 == r) ≡ false) apart)
      forth_by l e (inr (inl h)) =
          let same : l.peer ≡ n =
          same_source local (whole_of g) t after places_g l.peer n r h has in
          ap (λ (i : ℕ). is_for (Some i) m.1) (sym same) ∙ sym (grind arith)
          ∙ at (GoesTo r l.peer) (goes_to r does.on.put l.peer l.left l.gives) e
      forth_by l e (inr (inr h)) = let low = known r l.peer h in absurd (omega (arith, low, above))

      -- a unit for its peer is of the connection
      peer_so : (l : LivedSo m.0) → is_for (Some n) m.1 ≡ true → n ≡ l.peer
      peer_so l mine =
          peer_is n l.peer m.1
          (for_so l.peer m.1 (at (GoesTo m.0 l.peer) (goes_to m.0 does.on.put l.peer l.left l.gives) (eq-eqb m.0 m.0 refl))
          (at (λ (k : Marked). IsNotZero k.1) (by_units IsNotZero does.on.put class_2))) mine

      back_by : (l : LivedSo m.0) → is_for (Some n) m.1 ≡ true → AreApart m.0 does.on.put ⊎ IsNamed m.0 l.peer → (m.0 == r) ≡ true
      back_by l mine (inl apart) =
          differ (m.0 == m.0) (eq-eqb m.0 m.0 refl) (at (λ (k : Marked). (k.0 == m.0) ≡ false) apart)
      back_by l mine (inr (inl h)) =
          eq-eqb m.0 r
          (same_destination local (whole_of g) t after places_g n m.0 r
          (subst (λ (i : ℕ). HasCc i m.0 new.put) (sym (peer_so l mine)) h) has)
      back_by l mine (inr (inr h)) =
          let one = one_at s.connections t.live h.place h.connection h.joined places h.there h.here in
          absurd (none_open_for local (whole_of g) t after places_g n r has h.place
          h.connection (ap (λ (x : State). slice_get x.connections h.place) judge_g ∙ h.there) h.lives
          (sym one.calling ∙ number_is h.joined.calling l.peer h.theirs ∙ sym (peer_so l mine)))

      back : (q : ℕ) → m.0 ≡ q → is_for (Some n) m.1 ≡ true → (m.0 == r) ≡ true
      back zero e mine =
          differ (is_for (Some n) m.1) mine
          (none_for m.1 (at (λ (k : Marked). is_of_link k.1 ≡ nat_lt 0 k.0) does.on.by_links ∙ ap (nat_lt 0) e) (Some n))
      back (suc q) e mine =
          let some : 0 < m.0 = omega (arith, e) in
          let l : LivedSo m.0 = does.on.lives m.0 some in back_by l mine (named m.0 some l)

      one_agrees : (m.0 == r) ≡ is_for (Some n) m.1
      one_agrees =
          let some : 0 < r = omega (arith, above) in
          let l : LivedSo r = does.on.lives r some in
          same_bool (m.0 == r) (is_for (Some n) m.1) (λ e. forth_by l e (named r some l)) (λ e. back m.0 refl e)

    all_agree : (front rest : List Marked) → does.on.put ≡ front ++ rest → Agree r (Some n) rest
    all_agree front [] is = tt
    all_agree front (m ∷ rest) is =
        (one_agrees front rest m is, all_agree (front ++ m ∷ []) rest (is ∙ sym (append_assoc front (m ∷ []) rest)))

    -- so these are all that was put there in the turn
    pub puts_for : (does.on.more r).put ≡ waiting_for (Some n) (all_units does.on.put)
    puts_for = does.on.own r (omega (arith, above)) ∙ marks_wait r (Some n) does.on.put (all_agree [] does.on.put refl)
