-- Until a calling end gets a CC, a turn of it leaves all its connections standing at a judge: none is open in it, so it puts nothing there,
-- and takes nothing. For the session of the connection of an end in class 0.
use Rattle.osi_blameless.proofs.Vocabulary.{◌≡◌, ◌∙◌, sym, ap, subst, ℕ, ◌<◌, true, List, [], ◌∷◌, Option, Some, arith, ◌⊎◌, nat_lt}
use Rattle.osi_blameless.proofs.Vocabulary.{AllByRecursion, Value, confirm, Local, Left, Right, reference_of, Deeds, then_did, units_in}
use Rattle.osi_blameless.proofs.Vocabulary.{Marked, all_units, is_of_link, Turn, early, stage_at, all_units_more, Joint, TakesTurn}
use Rattle.osi_carrier.specs.State.{State as Carrier}
use Rattle.osi_blameless.specs.transport.Wholes as wholes
use Rattle.osi_blameless.proofs.small_facts_that_many_lemmas_use.{all_front, early_lasts, none_first}
use Rattle.osi_blameless.proofs.coming.a_calling_end_takes_nothing_before_its_cc.{quiet_turn}
use Rattle.osi_blameless.proofs.putting.a_turn_does_what_its_deeds_say.{turn_uses}
use Rattle.osi_blameless.proofs.standing.a_turn_leaves_all_standing.{Turns}
use Rattle.osi_blameless.proofs.in_class_0.an_end_awaits_its_cc.{StandsUnanswered, undone_higher}
use Rattle.osi_blameless.proofs.in_class_0.an_end_stands_before_a_class_is_selected.{none_turns}
use Rattle.osi_blameless.proofs.in_class_0.an_end_stands_in_class_0.{known_in}
use Rattle.osi_blameless.proofs.putting.each_reference_of_an_end_is_new.{GoesOn, turns_ahead}
use Rattle.osi_blameless.proofs.putting.nothing_is_done_before_a_cr_passes.{IsNotCc, turn_undone}
use Rattle.osi_blameless.proofs.in_class_0.units_of_class_0_come_after_its_cc.{IsQuiet, quiet_none}
use Rattle.osi_blameless.proofs.in_class_0.what_a_turn_puts_at_the_connections_that_are_open.{WasOpen, all_marked, open_before, puts_cc}
use Rattle.osi_blameless.proofs.in_class_0.what_a_turn_puts_at_the_connections_that_are_open.{takes_cc, then_open, unmarked}
use Rattle.osi_blameless.proofs.putting.what_a_turn_puts_goes_to_its_peer.{one_of}
use Rattle.osi_blameless.proofs.putting.what_a_turn_puts_waits.{Agree, marks_wait}
use Rattle.osi_blameless.proofs.coming.what_an_end_takes_at_each_stage.{AreCalm, turn_takes}
use Rattle.osi_blameless.proofs.standing.what_stands_of_a_connection.{waiting_for}
use Rattle.osi_blameless.proofs.steps.what_the_turns_among_steps_do.{TurnDoes}

quiet_no_cc : (r : ℕ) (vs : List Value) → AllByRecursion IsQuiet vs → AllByRecursion (IsNotCc r) vs
quiet_no_cc r [] h = tt
quiet_no_cc r (v ∷ vs) h = ((λ x is. absurd (subst IsQuiet is h.0)), quiet_no_cc r vs h.1)

module _ (local : Local) (turn : Turn) (old new : Joint) (t : TakesTurn turn old new) (deeds : ℕ → Deeds)
    (does : TurnDoes true deeds turn old new t) (h : StandsUnanswered local deeds old) where
  abbrev end : Carrier
  end = old.end.end.carrier

  abbrev then_end : Carrier
  then_end = new.end.end.carrier

  abbrev coming : List Value
  coming = units_in old.coming

  g : GoesOn Left (wholes.begin true local) h.ahead.bound new
  g = turns_ahead Left (wholes.begin true local) turn old new t h.ahead

  -- no CC is taken
  none_open : (q : ℕ) → 0 < q → WasOpen true q (stage_at q end) does.on.took does.on.put → ⊥
  none_open q some (open_before peer is) = h.shut q peer some is
  none_open q some (takes_cc may x front later is) =
      let u = turn_uses turn old new t true deeds does.on (early_lasts q end may) in
      let quiet = h.none.quiet in
      one_of IsQuiet (all_units front) (all_units later) (confirm q x)
      (grind (arith, all_units_more, all_front))
  none_open q some (puts_cc called n x front later source is) = absurd (cc called)

  -- no unit is of a link
  marks : AllByRecursion (λ (m : Marked). (m.0 ≡ 0) ⊎ (m.0 ≡ 0)) does.on.put
  marks = all_marked true turn old new t deeds does 0 (λ q some was. absurd (none_open q some was))

  agree_none : (r : ℕ) (o : Option ℕ) → 0 < r → (put : List Marked) → AllByRecursion (λ (m : Marked). (m.0 ≡ 0) ⊎ (m.0 ≡ 0)) put →
      AllByRecursion (λ (m : Marked). is_of_link m.1 ≡ nat_lt 0 m.0) put → Agree r o put
  agree_none r o some [] none links = tt
  agree_none r o some (m ∷ put) none links = grind (arith, unmarked, agree_none r o some put none.1 links.1)

  calm : (r : ℕ) → stage_at r end ≡ early → AreCalm true r (stage_at r then_end) does.on.took
  calm r may =
      let u = turn_uses turn old new t true deeds does.on (early_lasts r end may) in
      grind (arith, quiet_turn, stage_at r then_end, waiting_for (Some r), quiet_none r coming h.none.quiet)

  turns : Turns Left does.on.more (known_in end coming)
      (known_in then_end (units_in new.coming)) t.units old.judge.traffic old.judge.sessions
  turns = record {
    puts = λ i c j r there here mine live.
        let some : 0 < r = (h.ahead.below.live i j r here mine).0 in
        let o = reference_of Right j in
        does.on.own r some ∙ marks_wait r o does.on.put (agree_none r o some does.on.put marks does.on.by_links) ∙ ap (waiting_for o)
        (sym does.units);
    takes = λ r one later known.
        let x = turn_takes true turn old new t deeds does.on r known.0 (does.life r known.0) (calm r) later known.1 in
        record { rest = x.rest; first = x.first; sure = (known.0, x.sure) };
  }

  pub unanswered_turns : StandsUnanswered local (λ r. then_did (deeds r) (does.on.more r)) new
  unanswered_turns = record {
    ahead = g.ahead;
    none = none_turns Left turn old new t deeds does.on.more turns h.some h.none;
    undone = undone_higher h.ahead.bound g.ahead.bound (λ r. then_did (deeds r) (does.on.more r)) then_end g.rises
        (turn_undone h.ahead.bound turn old new t deeds does (λ lasts r less may. quiet_no_cc r coming h.none.quiet) h.undone);
    shut = λ q peer some is. none_open q some (then_open true turn old new t deeds does q peer some is);
    some = λ begun none. h.some (sym t.begun ∙ begun) (none_first old.put t.units (sym t.put ∙ none));
  }
