-- The turn in which a called end selects class 0: it puts its CC first, and opens one connection with it. Before that nothing waits, and no
-- connection is open. For the session of the connection of an end in class 0.
use Rattle.osi_blameless.proofs.Vocabulary.{◌≡◌, ◌∙◌, refl, sym, ap, subst, ℕ, ◌<◌, Bool, true, false, List, [], ◌∷◌, ◌++◌, Some, None}
use Rattle.osi_blameless.proofs.Vocabulary.{arith, AllByRecursion, Connect, Value, confirm, Zero, Local, acceptance, Right, State}
use Rattle.osi_blameless.proofs.Vocabulary.{Selecting, IsClear, IsFirm, Deeds, then_did, units_in, all_units, Turn, amid, stage_at}
use Rattle.osi_blameless.proofs.Vocabulary.{all_units_more, Sessions, Joint, TakesTurn, parts_of, going_on, inl}
use Rattle.osi_carrier.specs.State.{State as Carrier}
use Rattle.osi_blameless.proofs.keeping.steps_are_events.{whole_of, IsFollowed}
use Rattle.osi_blameless.proofs.small_facts_that_many_lemmas_use.{none_some}
use Rattle.osi_blameless.proofs.in_class_2.an_end_is_ready_for_each_cc_that_passes.{waits_above}
use Rattle.osi_blameless.proofs.putting.a_whole_end_runs_along.{has_lines}
use Rattle.osi_blameless.proofs.in_class_0.a_turn_after_which_a_cc_of_class_0_waits.{dts_after, no_cc_taken, turns_waiting}
use Rattle.osi_blameless.proofs.standing.all_connections_stand.{AllStand}
use Rattle.osi_blameless.proofs.in_class_0.an_end_answers_with_class_0.{StandsAnswering, first}
use Rattle.osi_blameless.proofs.in_class_2.an_end_stands_as_units_pass.{StandsInTwo, known_at}
use Rattle.osi_blameless.proofs.in_class_0.an_end_stands_before_a_class_is_selected.{StandInNone}
use Rattle.osi_blameless.proofs.in_class_0.an_end_stands_in_class_0.{known_in}
use Rattle.osi_blameless.proofs.putting.each_reference_of_an_end_is_new.{GoesOn, turns_ahead}
use Rattle.osi_blameless.proofs.standing.each_step_leaves_class_0_one_connection.{Sure}
use Rattle.osi_blameless.proofs.in_class_2.no_connection_is_opened_before_a_class_is_selected.{AreUncalled}
use Rattle.osi_blameless.proofs.in_class_0.units_of_class_0_come_after_its_cc.{IsQuiet}
use Rattle.osi_blameless.proofs.putting.ccs_among_units.{AnswersTwo, HasCc}
use Rattle.osi_blameless.proofs.in_class_0.what_a_turn_puts_at_the_connections_that_are_open.{WasOpen, open_before, puts_cc, takes_cc}
use Rattle.osi_blameless.proofs.putting.what_a_turn_puts_goes_to_its_peer.{all_so, one_of}
use Rattle.osi_blameless.proofs.standing.what_is_in_flight_to_an_end.{parts_taken}
use Rattle.osi_blameless.proofs.standing.what_stands_of_a_connection.{Known, waiting_for}
use Rattle.osi_blameless.proofs.in_class_0.what_the_stage_of_a_whole_end_says.{IsDt0}
use Rattle.osi_blameless.proofs.steps.what_the_turns_among_steps_do.{TurnDoes}

-- ---- connections without a reference of the end

module _ (deeds : ℕ → Deeds) (known then_known : Known) (put : List Value) (b : Bool) where
  -- they stand whatever is known of what is in flight
  all_unnamed : (s : State) (t : Sessions) → AreUncalled t → AllStand Right deeds known put b s t →
      AllStand Right deeds then_known put b s t
  all_unnamed s t none a = search arith

-- It has selected no class, or its CC of class 2 waits: each connection that it has open has a CC that waits.
pub record StandsUnselected (local : Local) (deeds : ℕ → Deeds) (j : Joint) : Type 0 where
  pub stands : StandsInTwo Right local deeds j
  pub sure : Sure j.judge
  pub class : j.judge.traffic.course.class ≡ None
  pub quiet : AllByRecursion IsQuiet (units_in j.coming)
  pub uncalled : AreUncalled j.judge.sessions
  pub shut : (q peer : ℕ) → 0 < q → stage_at q j.end.end.carrier ≡ amid peer → (n : ℕ) × HasCc n q j.put

pub unselected_so : (local : Local) (deeds : ℕ → Deeds) (j : Joint) → StandsUnselected local deeds j →
    StandInNone Right deeds j
unselected_so local deeds j h = record {
  sure = h.sure;
  class = h.class;
  all = all_unnamed deeds (known_at j) (known_in j.end.end.carrier (units_in j.coming)) j.put j.begun j.judge.traffic j.judge.sessions
      h.uncalled h.stands.standing.all;
  quiet = h.quiet;
  new = h.uncalled;
}

-- ---- the first unit that waits is the CC

record StartsWithCc (r : ℕ) (put : List Value) : Type 0 where
  n : ℕ
  x : Connect
  rest : List Value
  is : put ≡ confirm n x ∷ rest
  source : x.source ≡ r
  not_two : x.class ≡ 2 → ⊥

-- nothing waits before it
none_two : (m : ℕ) (y : Connect) (us old more : List Value) → confirm m y ∷ us ≡ old ++ more → y.class ≡ 0 →
    AllByRecursion AnswersTwo old → old ≡ []
none_two m y us [] more e zero_is two = refl
none_two m y us (v ∷ old) more e zero_is two =
    let first : confirm m y ≡ v = cc in
    let is_two : y.class ≡ 2 = subst AnswersTwo (sym first) two.0 in absurd (omega (arith, is_two, zero_is))

-- ---- the turn

abbrev IsFor : ℕ → Value → Type 0
IsFor r v = (m : ℕ) (y : Connect) → v ≡ confirm m y → y.source ≡ r

same_cc : (n m : ℕ) (x y : Connect) → confirm n x ≡ confirm m y → y.source ≡ x.source
same_cc n m x y e = cc

module _ (local : Local) (turn : Turn) (old new : Joint) (t : TakesTurn turn old new) (deeds : ℕ → Deeds)
    (does : TurnDoes false deeds turn old new t) (sure : IsFirm old.judge.traffic.course) (all : StandsUnselected local deeds old) where
  abbrev h : StandsInTwo Right local deeds old
  h = all.stands

  abbrev end : Carrier
  end = old.end.end.carrier

  abbrev pub ahead : GoesOn Right (first local) h.own.ahead.bound new
  ahead = turns_ahead Right (first local) turn old new t h.own.ahead

  abbrev f : IsFollowed Right (first local) new
  f = ahead.ahead.followed

  clear : IsClear old.judge.traffic.course
  clear = record { sure = sure; two = λ zero_is. none_some old.judge.traffic.course.class Zero all.class zero_is }

  module _ (z : Selecting local (whole_of f)) where
    abbrev answer : Connect
    answer = acceptance Zero z.size z.x local z.r

    put_is : confirm z.x.source answer ∷ z.more ≡ new.put
    put_is = sym z.put

    starts : StartsWithCc answer.source new.put
    starts = record { n = z.x.source; x = answer; rest = z.more; is = sym put_is; source = refl; not_two = λ two. cc two }

    abbrev x : Connect
    x = starts.x

    empty : old.put ≡ []
    empty =
        none_two z.x.source answer z.more old.put t.units (put_is ∙ t.put) refl
        h.own.holds.two

    all_put : all_units does.on.put ≡ confirm starts.n x ∷ starts.rest
    all_put = sym does.units ∙ ap (λ (l : List Value). l ++ t.units) (sym empty) ∙ sym t.put ∙ starts.is

    less : h.own.ahead.bound < x.source
    less =
        let above = waits_above local new ahead.ahead starts.n x.source
        (subst (HasCc starts.n x.source) (sym starts.is) (inl (refl, refl))) in
        let rises = ahead.rises in omega (arith, above, rises)

    dts : AllByRecursion IsDt0 starts.rest
    dts = dts_after local new f starts.n x starts.rest starts.is z

    all_for : AllByRecursion (IsFor x.source) (all_units does.on.put)
    all_for =
        subst (AllByRecursion (IsFor x.source)) (sym all_put) (
          (λ m y is. same_cc starts.n m x y is),
          all_so IsDt0 (IsFor x.source) (λ v w m y is. absurd (subst IsDt0 is w)) starts.rest dts,
        )

    is_x : (q : ℕ) → 0 < q → WasOpen false q (stage_at q end) does.on.took does.on.put → q ≡ x.source
    is_x q more (open_before peer is) = (let (n, has) = all.shut q peer more is in absurd (subst (HasCc n q) empty has))
    is_x q more (puts_cc called m y front later source is) =
        sym source
        ∙ one_of (IsFor x.source) (all_units front) (all_units later) (confirm m y)
        (grind (arith, all_units_more, all_for)) m y refl
    is_x q more (takes_cc may y front later is) =
        no_cc_taken local turn old new t deeds does q q y front later all.quiet may is

    some : old.begun ≡ true → old.put ≡ [] → ⊥
    some begun =
        let g = h.own.ahead.followed in
        let lines = has_lines local old g (going_on old.judge.traffic.course clear) h.own.holds.two in
        λ none. lines.called.some begun (sym lines.called.put ∙ none)

    pub turns_selecting : StandsAnswering local (λ r. then_did (deeds r) (does.on.more r)) new
    turns_selecting =
        turns_waiting local turn old new t deeds does ahead.ahead starts.n x starts.rest starts.is starts.not_two
        (grind (arith, less)) (unselected_so local deeds old all) some
        ((grind (arith, less, empty)) ∙ ap (waiting_for (Some starts.n)) (sym empty))
        (parts_taken (deeds x.source).calls ∙ ap parts_of (h.own.holds.unheard x.source less)) dts is_x
