-- A DC with which a whole called end answers a DR for what is gone passes: it answers nothing at the judge, and changes nothing.
-- For the law on a whole called end.
use Rattle.osi_blameless.proofs.transport.Vocabulary.{[], ap, arith, at_found, Bool, Broke, Connection, disconnected, eqb-true, false}
use Rattle.osi_blameless.proofs.transport.Vocabulary.{Finding}
use Rattle.osi_blameless.proofs.transport.Vocabulary.{first_failed, if◌then◌else◌, is_closing, is_due, is_open, knows_disconnect, List}
use Rattle.osi_blameless.proofs.transport.Vocabulary.{Local, may_answer}
use Rattle.osi_blameless.proofs.transport.Vocabulary.{None, not, NotJudged, Option, Outcome, Right, slice_get, Some, subst, takes, Traffic}
use Rattle.osi_blameless.proofs.transport.Vocabulary.{true, Value}
use Rattle.osi_blameless.proofs.transport.Vocabulary.{Whole, ℕ, ◌&&◌, ◌==◌, ◌||◌, ◌∙◌, ◌∷◌, ◌≡◌}
use Rattle.osi_rules.specs.declared.findings.Rule.TheVariants as rule
use Rattle.osi_blameless.proofs.transport.small_facts_that_many_lemmas_use.{and_false, differ, is_false}
use Rattle.osi_blameless.proofs.transport.by_line.a_dc_follows_a_dr.{may_so}
use Rattle.osi_blameless.proofs.transport.by_place.a_unit_of_the_end_passes.{IsFineAt}
use Rattle.osi_blameless.proofs.transport.by_place.each_connection_has_its_place.{Running, AreStrays, Called, IsStray, Stand, answers}
use Rattle.osi_blameless.proofs.transport.connections.units_by_their_place.{Placed, first_at, units_at, values}
use Rattle.osi_blameless.proofs.transport.connections.a_line_since_its_connection_opened.{close_waits}
use Rattle.osi_blameless.proofs.transport.connections.which_units_are_for_a_connection.{is_dc}
use Rattle.osi_blameless.proofs.transport.requests.while_no_class_is_selected.{set_same}

due_parts : (a b c : Bool) → (a && (b && c)) ≡ true → (a ≡ true) × (c ≡ true)
due_parts a b c h = grind arith

not_due : (due told strays : Bool) → due ≡ false → strays ≡ true →
    first_failed ((due || not strays, NotJudged) ∷ (told, Broke rule.UnknownReference) ∷ (due, Broke rule.NothingToAnswer) ∷ []) ≡ NotJudged
not_due due told strays h k = grind arith

judged_not : (j : Bool) (g : Finding) → (j ≡ true → g ≡ NotJudged) → (if j then g else NotJudged) ≡ NotJudged
judged_not j g h = grind arith

-- nothing is changed
record Spared (u : Value) (s : Traffic) (o : Outcome) : Type 0 where
  finding : o.told.finding ≡ NotJudged
  state : o.state ≡ s

module _ (m n : ℕ) (s : Traffic) (strays : may_answer Right s.course.disconnects ≡ true) where
  found_spared : (q : ℕ) (o : Option Connection) → slice_get s.connections q ≡ o →
      ((c : Connection) → slice_get s.connections q ≡ Some c → c.is_judged ≡ true → is_due Right c n ≡ false) →
      Spared (disconnected m n) s (at_found Right (disconnected m n) s q o)
  found_spared q o e h = grind (arith, judged_not, not_due, set_same)

  spared : s.course.right_stopped ≡ false → ((q : ℕ) (c : Connection) → slice_get s.connections q ≡ Some c →
      c.is_judged ≡ true → is_due Right c n ≡ false) →
      Spared (disconnected m n) s (takes Right (disconnected m n) s)
  spared right h = grind (arith, found_spared)

module _ (local : Local) (w : Whole) (f : Called local w) (right : w.judge.course.right_stopped ≡ false) (u : Value) (rest : List Value)
    (later : List Placed) (tagged : f.tagged ≡ (None, u) ∷ later) (rest_are : rest ≡ values later)
    (knows : is_dc u ≡ true → knows_disconnect Right w.judge.course.disconnects ≡ true) where
  abbrev after : Traffic → Whole
  after t = record w { put = rest; begun = false; judge = t }

  strays_all : AreStrays f.shut w.end f.refs f.home w.judge.course.disconnects.strays ((None, u) ∷ later)
  strays_all = subst (λ (l : List Placed). AreStrays f.shut w.end f.refs f.home w.judge.course.disconnects.strays l) tagged f.strays

  stray : IsStray f.shut w.end f.refs f.home w.judge.course.disconnects.strays u later
  stray = strays_all.0

  may : may_answer Right w.judge.course.disconnects ≡ true
  may = may_so Right w.judge.course.disconnects stray.strays_is (knows (ap is_dc stray.is))

  begun_not : (i : ℕ) → (w.begun && first_at i f.tagged) ≡ false
  begun_not i = ap (λ (l : List Placed). w.begun && first_at i l) tagged ∙ and_false w.begun

  run_waits : (q : ℕ) (c : Connection) (g : Running f.shut w.end w.coming (units_at q f.tagged) (w.begun && first_at q f.tagged) (f.refs q)
      c) → c.is_judged ≡ true → is_open c.right.phase ≡ true → f.shut g.r ≡ true → units_at q f.tagged ≡ [] → ⊥
  run_waits q c g judged up shut none =
      close_waits Right g.r g.peer g.line g.tracks (ap (λ (x : Connection). x.is_judged) g.judge ∙ judged) (g.shut_is shut)
      (ap (λ (x : Connection). is_open x.right.phase) g.judge ∙ up) (g.put ∙ none)

  due_not : {A : Type 0} (q : ℕ) (c : Connection) → slice_get w.judge.connections q ≡ Some c → c.is_judged ≡ true →
      is_open c.right.phase ≡ true →
      stray.n ≡ c.right.reference →
      Stand local f.shut w.end w.coming (units_at q f.tagged) (units_at q f.came) (w.begun && first_at q f.tagged) (f.refs q) c → A
  due_not q c h judged up same h2 = grind (arith, differ, stray, run_waits)

  no_due : (q : ℕ) (c : Connection) → slice_get w.judge.connections q ≡ Some c → c.is_judged ≡ true → is_due Right c stray.n ≡ false
  no_due q c at judged = is_false (is_due Right c stray.n) (λ h.
      let (a, b) = due_parts (is_open c.right.phase) (is_closing c.seen_by_right.phase) (stray.n == c.right.reference) h in
      due_not q c at judged a (eqb-true stray.n c.right.reference b) (f.stands q c at))

  stays : Called local (after w.judge)
  stays = record {
    tagged = later;
    put = rest_are;
    came = f.came;
    come = f.come;
    refs = f.refs;
    home = f.home;
    shut = f.shut;
    stands = λ i x there.
        subst (λ (b : Bool). Stand local f.shut w.end w.coming (units_at i later) (units_at i f.came) b (f.refs i) x) (begun_not i)
        (subst (λ (l : List Value). Stand local f.shut w.end w.coming l (units_at i f.came) (w.begun && first_at i f.tagged) (f.refs i) x)
        (grind (arith, units_at)) (f.stands i x there));
    beyond = grind (arith, units_at);
    homes = f.homes;
    positive = f.positive;
    linked_at = f.linked_at;
    shut_given = f.shut_given;
    strays = strays_all.1;
    last = f.last;
    tops = f.tops;
    above = grind (arith, values, stray);
    class = f.class;
    two = f.two;
    class_seen = f.class_seen;
    past_two = f.past_two;
    seen_two = f.seen_two;
    some = λ h. absurd (cc h);
    few = f.few;
    untagged = f.untagged;
    timely = grind (arith, answers, values);
  }

  pub stray_passes : IsFineAt u w.judge × Called local (after (takes Right u w.judge).state)
      × ((takes Right u w.judge).state.connections ≡ w.judge.connections)
  stray_passes = grind (arith, stray, spared, no_due, stays, may)
