-- Until a calling end gets a CC, all its connections stand at a judge, whatever classes it offers: at the beginning, and after what passes
-- and is no break, or is passed over. The CC of class 0 opens the connection for which it comes, and no other one is left then. For the
-- session of the connection of an end in class 0.
use Rattle.osi_blameless.proofs.Vocabulary.{units_of, IsOctets, Ok, ◌≡◌, ◌≢◌, ◌∙◌, refl, sym, ap, subst, ℕ, ◌^◌, ◌<◌, ◌≤◌, Bool, true}
use Rattle.osi_blameless.proofs.Vocabulary.{false, List, [], ◌∷◌, ◌++◌, length, Option, Some, None, is_some, arith, slice_get, append-nil}
use Rattle.osi_blameless.proofs.Vocabulary.{append_assoc, ◌||◌, ◌⊎◌, inl, inr, AllByRecursion, Connect, HasFieldsInRange, Value}
use Rattle.osi_blameless.proofs.Vocabulary.{acknowledge, confirm, data0, data2, disconnect, disconnected, error, request, units_fit}
use Rattle.osi_blameless.proofs.Vocabulary.{units_found, Class, Two, Zero, Local, EndReason, Left, Right, Finding, TooMany, Reach}
use Rattle.osi_blameless.proofs.Vocabulary.{is_applied, State, class_for, class_of, is_stopped, stops_by, takes, stops_are_said, has_given}
use Rattle.osi_blameless.proofs.Vocabulary.{Whole, Holding, fresh_apart, no_item, left_class, Holds, holds_next, Deeds, no_deeds, units_in}
use Rattle.osi_blameless.proofs.Vocabulary.{IsFresh, amid, past, stage_at, stage_over, Joined, spoken, Course, packet_begins}
use Rattle.osi_blameless.proofs.Vocabulary.{unit_passes, units_pass, heard, parts_of, Joint, Steps, begin, begins_other, begins_own}
use Rattle.osi_blameless.proofs.Vocabulary.{passes_other, passes_own}
use Rattle.osi_carrier.specs.State.{State as Carrier}
use Rattle.osi_rules.specs.declared.directions.Direction.TheVariants as way
use Rattle.osi_blameless.specs.transport.Wholes as wholes
use Rattle.osi_blameless.proofs.keeping.a_carrier_does_events.{IsLike, none_of}
use Rattle.osi_blameless.proofs.keeping.a_break_ends_no_judging_or_all.{reach_so}
use Rattle.osi_blameless.proofs.small_facts_that_many_lemmas_use.{all_front, all_join, given_so, none_some, over_none, ranges_of}
use Rattle.osi_blameless.proofs.keeping.what_a_taker_passes_over.{IsMild, mild_reach}
use Rattle.osi_blameless.proofs.in_class_0.a_cc_of_class_0_opens_one_connection.{awaits_this, cc_opens, effect, opens_within}
use Rattle.osi_blameless.proofs.putting.a_turn_does_what_its_deeds_say.{units_more}
use Rattle.osi_blameless.proofs.standing.all_connections_stand.{AllStand, all_room}
use Rattle.osi_blameless.proofs.in_class_0.an_end_stands_before_a_class_is_selected.{AllInNone, StandInNone, none_other_begins}
use Rattle.osi_blameless.proofs.in_class_0.an_end_stands_before_a_class_is_selected.{none_own_begins}
use Rattle.osi_blameless.proofs.in_class_0.an_end_stands_in_class_0.{AllInZero, IsGone, StandsInZero, known_in, none_named, same_known}
use Rattle.osi_blameless.proofs.in_class_0.an_end_stands_in_class_0.{units_zero, within_higher}
use Rattle.osi_blameless.proofs.shown.connections_have_the_same_places.{unit_joins, unit_knows}
use Rattle.osi_blameless.proofs.putting.each_reference_of_an_end_is_new.{AreUpTo, GoesOn, IsAhead, IsWithin, begins_other_ahead}
use Rattle.osi_blameless.proofs.putting.each_reference_of_an_end_is_new.{begins_own_ahead, first_ahead, gives_new, other_up}
use Rattle.osi_blameless.proofs.putting.each_reference_of_an_end_is_new.{passes_highest}
use Rattle.osi_blameless.proofs.putting.each_reference_of_an_end_is_new.{passes_other_ahead, unit_up}
use Rattle.osi_blameless.proofs.standing.each_step_leaves_class_0_one_connection.{fresh_sure, sure_claim}
use Rattle.osi_blameless.proofs.putting.nothing_is_done_before_a_cr_passes.{AreUndone, cr_ready}
use Rattle.osi_blameless.proofs.putting.references_of_an_end_are_distinct.{AreDistinct, GivesNew, unit_distinct}
use Rattle.osi_blameless.proofs.standing.steps_of_either_class_leave_all_standing.{IsRight, IsTolerable, any_passes_own}
use Rattle.osi_blameless.proofs.in_class_0.units_of_class_0_come_after_its_cc.{IsCcFor, IsQuiet, quiet_cc, quiet_ccs, quiet_none}
use Rattle.osi_blameless.proofs.in_class_2.what_is_asked_of_what_holds_at_each_step.{ArePassed, HaveCourses, IsTakenEarly, units_not}
use Rattle.osi_blameless.proofs.in_class_2.what_is_asked_of_what_holds_at_each_step.{early as tolerable}
use Rattle.osi_blameless.proofs.standing.what_passes_leaves_all_standing as in_two
use Rattle.osi_blameless.proofs.standing.what_passes_leaves_all_standing.{IsHeardFirm}
use Rattle.osi_blameless.proofs.standing.what_stands_of_a_connection.{waiting_for}
use Rattle.osi_blameless.proofs.in_class_0.what_the_stage_of_a_whole_end_says.{AwaitsAnswer, PassesOwn, adding, asking, awaits, cc_comes}
use Rattle.osi_blameless.proofs.in_class_0.what_the_stage_of_a_whole_end_says.{gone, one_early}
use Rattle.osi_blameless.proofs.in_class_0.what_the_stage_of_a_whole_end_says.{own_unit, runs_staged}
use Rattle.osi_blameless.proofs.keeping.steps_are_events.{whole_of}
use Rattle.osi_blameless.proofs.putting.a_whole_end_runs_along.{IsBehind, next_behind, with_unit}

-- ---- small facts

same_number : (m n : ℕ) (x y : Connect) → confirm m x ≡ confirm n y → n ≡ m
same_number m n x y e = cc

few_of : (f : Finding) → is_applied f ≡ true → f ≡ TooMany → ⊥
few_of f h many = let no : false ≡ true = sym (ap is_applied many) ∙ h in cc

zero_of : (k : Class) → (k ≡ Two → ⊥) → k ≡ Zero
zero_of Zero not = refl
zero_of Two not = absurd (not refl)

pub undone_higher : (b n : ℕ) (deeds : ℕ → Deeds) (c : Carrier) → b ≤ n → AreUndone b deeds c → AreUndone n deeds c
undone_higher b n deeds c up u r less = u r (omega (arith, up, less))

-- a whole end with this judge and an end like this one, which has put these units
abbrev pub IsWith : Local → Carrier → List Value → Course → Type 0
IsWith local end put c = IsBehind (λ w. Holds local w × IsLike w.end end) put c

-- ---- a unit of the other side

-- a CR, a DT and an AK are breaks then that are not passed over
abbrev IsEarlyBreak : Value → Type 0
IsEarlyBreak (request x) = Unit {0}
IsEarlyBreak (data0 end user) = Unit {0}
IsEarlyBreak (data2 n number end user) = Unit {0}
IsEarlyBreak (acknowledge credit n number) = Unit {0}
IsEarlyBreak _ = ⊥

-- a DR, a DC or an ER
abbrev IsRefusal : Value → Type 0
IsRefusal (disconnect n source reason user) = Unit {0}
IsRefusal (disconnected n source) = Unit {0}
IsRefusal (error n cause) = Unit {0}
IsRefusal _ = ⊥

module _ (s : State) (goes : is_stopped way.Right s.course ≡ false) (class : s.course.class ≡ None) where
  early_break : {A : Type 0} (v : Value) → IsEarlyBreak v → IsMild v (takes way.Right v s).told.finding → A
  early_break v h mild = grind arith

  refusal_class : (v : Value) → IsRefusal v → (takes way.Right v s).state.course.class ≡ s.course.class
  refusal_class v h = grind arith

module _ (local : Local) (deeds : ℕ → Deeds) (end : Carrier) (put : List Value) (begun : Bool) (at : ℕ) where
  abbrev pub Unanswered : List Value → Course → Type 0
  Unanswered coming c = AllInNone Left deeds end put begun coming c

  abbrev after : Value → Course → Course
  after v c = unit_passes Right at v c

  -- no CC has come, or the one that selects class 0
  pub data Comes (b : ℕ) (coming : List Value) (c : Course) : Type 0 where
    none_yet : Unanswered coming c → Comes b coming c
    then_zero : (r : ℕ) → IsWithin b r → AllInZero Left deeds r end put begun coming c → Comes b coming c

  pub comes_all : (b : ℕ) (coming : List Value) (c : Course) → Comes b coming c →
      AllStand Left deeds (known_in end coming) put begun c.traffic c.sessions
  comes_all b coming c (none_yet none) = none.all
  comes_all b coming c (then_zero r within z) = z.all

  module _ (coming : List Value) (v : Value) (c : Course) (h : Unanswered coming c) (k : IsTakenEarly Left v c) where
    right : IsTolerable Right v c
    right = tolerable Left v c k

    class_was : (after v c).traffic.course.class ≡ (takes way.Right v c.traffic).state.course.class
    class_was = ap (λ (s : State). s.course.class) (unit_knows Right at v c)

    then_distinct : GivesNew Left v c.sessions → AreDistinct Left (after v c).sessions
    then_distinct new =
        subst (AreDistinct Left) (sym (unit_joins Right at v c))
        (unit_distinct Left Right at v c.traffic c.sessions h.all.places h.new new
        (λ i j here. all_room Left deeds (known_in end coming) put begun c.traffic c.sessions h.all i j here))

    then_all : IsHeardFirm Left (known_in end coming) (known_in end (coming ++ v ∷ [])) v put c.traffic c.sessions →
        AllStand Left deeds (known_in end (coming ++ v ∷ [])) put begun (after v c).traffic (after v c).sessions
    then_all heard =
        in_two.other_stands_firm Left deeds (known_in end coming) (known_in end (coming ++ v ∷ [])) at v put begun c right.firm right.goes
        (λ e. none_some c.traffic.course.class Zero h.class e) right.mild heard h.all

    -- it is for no connection
    refuses : IsRefusal v → IsQuiet v → GivesNew Left v c.sessions →
        IsHeardFirm Left (known_in end coming) (known_in end (coming ++ v ∷ [])) v put c.traffic c.sessions →
        Unanswered (coming ++ v ∷ []) (after v c)
    refuses refusal quiet new heard = record {
      sure = sure_claim.passes Right at v c h.sure;
      class = class_was ∙ refusal_class c.traffic right.goes h.class v refusal ∙ h.class;
      all = then_all heard;
      quiet = all_join IsQuiet coming (v ∷ []) h.quiet (quiet, tt);
      new = then_distinct new;
    }

  -- such a unit does not come
  breaks_early : {A : Type 0} (coming : List Value) (c : Course) (v : Value) → Unanswered coming c → IsTakenEarly Left v c →
      IsEarlyBreak v → A
  breaks_early coming c v h k kind =
      let right = tolerable Left v c k in early_break c.traffic right.goes h.class v kind right.mild

  -- the CC
  module _ (b : ℕ) (coming : List Value) (n : ℕ) (x : Connect) (c : Course) (h : Unanswered coming c)
      (k : IsTakenEarly Left (confirm n x) c) (not : (after (confirm n x) c).traffic.course.class ≡ Some Two → ⊥)
      (w : IsWith local end put c) (below : AreUpTo Left b c.sessions) where
    abbrev v : Value
    v = confirm n x

    -- it has its effect, so the end stays judged
    then_left : (takes way.Right v c.traffic).state.course.left_stopped ≡ false
    then_left =
        let found = (takes way.Right v c.traffic).told.finding in
        let right = tolerable Left v c k in
        let few = few_of found (effect n x at c h.all.places right.goes h.class right.firm h.all.judged right.mild).applied in
        stops_are_said way.Right v c.traffic way.Left
        ∙ ap (λ (r : Reach). stops_by way.Right r way.Left || c.traffic.course.left_stopped)
        ((reach_so Right at v c).far ∙ mild_reach v (class_for way.Right c.traffic.course) found right.mild few)
        ∙ k.firm.left

    came : (w.whole.put ≡ []) × AwaitsAnswer local w.whole
    came =
        cc_comes local w.whole n x (w.holds.0.stage (ap (λ (s : State). s.course.left_stopped) w.judge ∙ k.firm.left))
        (ap (λ (s : State). s.course.class) w.judge ∙ h.class)
        (ap (λ (s : State). (takes way.Right v s).state.course.left_stopped) w.judge ∙ then_left)

    none_put : put ≡ []
    none_put = sym w.same ∙ came.0

    -- every other reference is gone
    past_by : (q : ℕ) → end.ended ≡ None → q ≤ end.given → 0 < q → (q ≡ n → ⊥) → w.whole.end.ended ≡ None →
        AwaitsAnswer local w.whole → stage_at q end ≡ past
    past_by q lasts up some apart whole_lasts (gone over) = over_none w.whole.end.ended over whole_lasts
    past_by q lasts up some apart whole_lasts (awaits r p o cs strays is judge waits) =
        let same = w.holds.1.lasts whole_lasts in
        let right = tolerable Left v c k in
        let mine : n ≡ r =
        awaits_this n x at c h.all.places right.goes h.class right.firm h.all.judged right.mild r p o cs strays
        (sym w.judge ∙ judge) waits in
        let given_here : has_given q w.whole.end ≡ true = ap (has_given q) same ∙ given_so q end some up in
        sym (ap (stage_at q) same) ∙ one_early local w.whole q r is given_here (λ e. apart (e ∙ sym mine))

    module _ (given : end.ended ≡ None → b ≤ end.given) where
      others_gone : (q : ℕ) → IsWithin b q → (q ≡ n → ⊥) → IsGone end q
      others_gone q within apart = (within.0, by end.ended refl)
        where
          by : (o : Option EndReason) → end.ended ≡ o → stage_at q end ≡ past
          by (Some reason) over = stage_over q end (ap is_some over)
          by None lasts =
              past_by q lasts (let low = within.1 in let high = given lasts in omega (arith, low, high)) within.0 apart
              (none_of w.whole.end.ended (sym w.holds.1.over ∙ ap is_some lasts)) came.1

      cc_zero : Comes b (coming ++ v ∷ []) (after v c)
      cc_zero =
          let right = tolerable Left v c k in
          let selects : (after v c).traffic.course.class ≡ Some (class_of x) =
          class_was coming v c h k ∙ (effect n x at c h.all.places right.goes h.class right.firm h.all.judged right.mild).class in
          let zero_is : class_of x ≡ Zero = zero_of (class_of x) (λ two. not (selects ∙ ap (λ (a : Class). Some a) two)) in
          then_zero n (opens_within n x at c h.all.places right.goes h.class right.firm h.all.judged right.mild b below) (record {
            sure = sure_claim.passes Right at v c h.sure;
            class = selects ∙ ap (λ (a : Class). Some a) zero_is;
            all = then_all coming v c h k
                (ap (waiting_for (Some x.source)) none_put, same_known Left deeds 0 end put begun at coming v refl);
            one = cc_opens n x at c h.all.places right.goes h.class right.firm h.all.judged right.mild (IsGone end) h.new b below
                others_gone;
            ccs = all_join (IsCcFor n) coming (v ∷ []) (quiet_ccs n coming h.quiet) ((λ m y is. same_number n m x y is), tt);
            order = quiet_cc coming n x h.quiet;
          })

  -- ---- each unit

  module _ (b : ℕ) (given : end.ended ≡ None → b ≤ end.given) where
    unit_comes : (coming : List Value) (c : Course) (v : Value) → Unanswered coming c → IsTakenEarly Left v c →
        ((after v c).traffic.course.class ≡ Some Two → ⊥) → IsWith local end put c → AreUpTo Left b c.sessions →
        Comes b (coming ++ v ∷ []) (after v c)
    unit_comes coming c (confirm n x) h k not w below = cc_zero b coming n x c h k not w below given
    unit_comes coming c (disconnect n source reason user) h k not w below =
        let v = disconnect n source reason user in
        none_yet (refuses coming v c h k tt tt tt (same_known Left deeds 0 end put begun at coming v refl))
    unit_comes coming c (disconnected n source) h k not w below =
        let v = disconnected n source in
        none_yet (refuses coming v c h k tt tt tt (same_known Left deeds 0 end put begun at coming v refl))
    unit_comes coming c (error n cause) h k not w below =
        let v = error n cause in none_yet (refuses coming v c h k tt tt tt (same_known Left deeds 0 end put begun at coming v refl))
    unit_comes coming c (request x) h k not w below = breaks_early coming c (request x) h k tt
    unit_comes coming c (data0 last user) h k not w below = breaks_early coming c (data0 last user) h k tt
    unit_comes coming c (data2 n number last user) h k not w below = breaks_early coming c (data2 n number last user) h k tt
    unit_comes coming c (acknowledge credit n number) h k not w below = breaks_early coming c (acknowledge credit n number) h k tt

    next_with : (v : Value) (c : Course) → HasFieldsInRange v → IsWith local end put c → IsWith local end put (after v c)
    next_with v c ranges w =
        next_behind (λ x. Holds local x × IsLike x.end end) put at v c
        (λ x (h, like). (holds_next local (wholes.passes_other v) x (with_unit v x) (ranges, refl) h, like)) w

    -- the units of a packet
    pub units_come : (vs coming : List Value) (c : Course) → AllByRecursion HasFieldsInRange vs → ArePassed Two Left at vs c →
        ((units_pass Right at vs c).traffic.course.class ≡ Some Two → ⊥) → IsWith local end put c → AreUpTo Left b c.sessions →
        Unanswered coming c → Comes b (coming ++ vs) (units_pass Right at vs c)
    units_come [] coming c ranges passed not w below h =
        none_yet (subst (λ (l : List Value). Unanswered l c) (sym (append-nil coming)) h)
    units_come (v ∷ vs) coming c ranges passed not w below h =
        subst (λ (l : List Value). Comes b l (units_pass Right at (v ∷ vs) c)) (append_assoc coming (v ∷ []) vs)
        (by (unit_comes coming c v h passed.0 (units_not Two Right at vs (after v c) not) w below)
        (λ more.
        units_come vs (coming ++ v ∷ []) (after v c) ranges.1 passed.1 not (next_with v c ranges.0 w)
        (unit_up Left Right b at v c h.all.places (none_named Left b at (v ∷ []) c (passed.0, tt)).0 below) more))
      where
        by : Comes b (coming ++ v ∷ []) (after v c) →
            (Unanswered (coming ++ v ∷ []) (after v c) → Comes b ((coming ++ v ∷ []) ++ vs) (units_pass Right at (v ∷ vs) c)) →
            Comes b ((coming ++ v ∷ []) ++ vs) (units_pass Right at (v ∷ vs) c)
        by (none_yet more) go = go more
        by (then_zero r within z) go =
            then_zero r within (units_zero Left deeds r end put begun at vs (coming ++ v ∷ []) (after v c) passed.1 z)

-- ---- at each step

module _ (local : Local) where
  abbrev first : Whole
  first = wholes.begin true local

  -- Nothing is done for a CR that has not passed, and no connection is open.
  pub record StandsUnanswered (deeds : ℕ → Deeds) (j : Joint) : Type 0 where
    pub ahead : IsAhead Left first j
    pub none : StandInNone Left deeds j
    pub undone : AreUndone ahead.bound deeds j.end.end.carrier
    pub shut : (q peer : ℕ) → 0 < q → stage_at q j.end.end.carrier ≡ amid peer → ⊥
    pub some : j.begun ≡ true → j.put ≢ []

  -- the references of CRs that have passed were given
  were_given : (j : Joint) (a : IsAhead Left first j) → j.end.end.carrier.ended ≡ None → a.bound ≤ j.end.end.carrier.given
  were_given j a lasts = grind (arith, none_of)

  -- the first of the units of a packet come
  pub unanswered_comes : (deeds : ℕ → Deeds) (at : ℕ) (octets : List ℕ) (front back : List Value) (j : Joint) → IsOctets octets →
      units_of octets ≡ Ok (front ++ back) → ArePassed Two Left at front j.judge →
      ((units_pass Right at front j.judge).traffic.course.class ≡ Some Two → ⊥) → (h : StandsUnanswered deeds j) →
      Comes local deeds j.end.end.carrier j.put j.begun at h.ahead.bound (units_in j.coming ++ front)
      (units_pass Right at front j.judge)
  unanswered_comes deeds at octets front back j all read passed not h =
      units_come local deeds j.end.end.carrier j.put j.begun at h.ahead.bound (were_given j h.ahead) front (units_in j.coming) j.judge
      (all_front HasFieldsInRange front back
      (ranges_of (front ++ back) (units_fit (front ++ back) octets (units_found octets (front ++ back) all read)))) passed not
      (record {
        whole = whole_of h.ahead.followed;
        holds = (runs_staged local j h.ahead.followed, h.ahead.followed.like);
        judge = refl;
        same = refl;
      })
      h.ahead.below h.none

  -- ---- at the beginning

  pub unanswered_first : (holding : Holding) → IsFresh true local holding → StandsUnanswered (λ r. no_deeds) (begin holding)
  unanswered_first holding fresh = record {
    ahead = first_ahead Left local holding fresh;
    none = grind (arith, fresh_sure, fresh_apart, no_item);
    undone = λ r less. record { put = refl; taken = refl; shut = λ peer is. shut_at r peer is };
    shut = λ q peer some is. shut_at q peer is;
    some = λ begun. absurd (cc begun);
  }
    where
      shut_at : (r peer : ℕ) → stage_at r holding.end.carrier ≡ amid peer → ⊥
      shut_at r peer is = grind arith

  module _ (deeds : ℕ → Deeds) where
    abbrev Stands : Joint → Type 0
    Stands j = StandsUnanswered deeds j

    -- the end goes on as it is
    unanswered_on : (old new : Joint) (h : Stands old) → GoesOn Left first h.ahead.bound new → new.end ≡ old.end →
        StandInNone Left deeds new → (new.begun ≡ true → new.put ≢ []) → Stands new
    unanswered_on old new h g same none some = record {
      ahead = g.ahead;
      none = none;
      undone = undone_higher h.ahead.bound g.ahead.bound deeds new.end.end.carrier g.rises
          (subst (λ (x : Holding). AreUndone h.ahead.bound deeds x.end.carrier) (sym same) h.undone);
      shut = subst (λ (x : Holding). (q peer : ℕ) → 0 < q → stage_at q x.end.carrier ≡ amid peer → ⊥) (sym same) h.shut;
      some = some;
    }

    pub unanswered_own_begins : (old new : Joint) → Steps Left begins_own old new → HaveCourses Left deeds old →
        ((i : ℕ) (j : Joined) → slice_get old.judge.sessions.live i ≡ Some j → length (heard (spoken Right j)) < 2 ^ 64) →
        Stands old → Stands new
    unanswered_own_begins old new (some, none, is) courses few h =
        let mid : Joint = record old { begun = true; judge = packet_begins Left old.judge } in
        subst Stands (sym is) (unanswered_on old mid h (begins_own_ahead Left first old mid (some, none, refl) h.ahead) refl
        (none_own_begins Left deeds old h.none none courses few) (λ begun. some))

    pub unanswered_other_begins : (old new : Joint) → Steps Left begins_other old new → Stands old → Stands new
    unanswered_other_begins old new is h =
        let mid : Joint = record old { judge = packet_begins Right old.judge } in
        subst Stands (sym is) (unanswered_on old mid h (begins_other_ahead Left first old mid refl h.ahead) refl
        (none_other_begins Left deeds old h.none) h.some)

    -- ---- a packet of the other side passes

    pub unanswered_other_passes : (at : ℕ) (packet : List ℕ) (units : List Value) (old new : Joint) →
        Steps Left (passes_other at packet units) old new → ArePassed Two Left at units old.judge →
        (new.judge.traffic.course.class ≡ Some Two → ⊥) → Stands old → Stands new ⊎ StandsInZero Left local deeds new
    unanswered_other_passes at packet units old new (octets, read, is) passed not h =
        subst (λ (j : Joint). Stands j ⊎ StandsInZero Left local deeds j) (sym is)
        (by (subst (λ (l : List Value). Comes local deeds end old.put old.begun at b l mid.judge) all
        (unanswered_comes deeds at packet units [] old octets (read ∙ ap (λ (l : List Value). Ok l) (sym (append-nil units))) passed
        (λ two. not (ap (λ (j : Joint). j.judge.traffic.course.class) is ∙ two)) h)))
      where
        mid : Joint
        mid = record old { judge = units_pass Right at units old.judge; coming = old.coming ++ packet ∷ [] }

        end : Carrier
        end = old.end.end.carrier

        b : ℕ
        b = h.ahead.bound

        all : units_in old.coming ++ units ≡ units_in mid.coming
        all = units_more old.coming packet units read

        g : GoesOn Left first b mid
        g =
            passes_other_ahead Left first at packet units old mid (octets, read, refl) h.ahead
            (other_up Left first at b packet units old mid (octets, read, refl) h.none.all.places
            (none_named Left b at units old.judge passed)
            h.ahead.below)

        by : Comes local deeds end old.put old.begun at b (units_in mid.coming) mid.judge → Stands mid ⊎ StandsInZero Left local deeds mid
        by (none_yet none) = inl (unanswered_on old mid h g refl none h.some)
        by (then_zero r within z) = inr (record {
          ahead = g.ahead;
          r = r;
          within = within_higher b g.ahead.bound r g.rises within;
          zero = z;
          amid_is = λ q peer some live. absurd (h.shut q peer some live);
          some = h.some;
        })

    -- ---- a CR passes

    abbrev own_passed : (at : ℕ) → Value → Joint → List Value → Joint
    own_passed at unit old put = record old { put = put; begun = false; judge = units_pass Left at (unit ∷ []) old.judge }

    own_cr : (at : ℕ) (x : Connect) (old : Joint) (put : List Value) →
        Steps Left (passes_own at (request x)) old (own_passed at (request x) old put) → IsRight Left (request x) old.judge → Stands old →
        Stands (own_passed at (request x) old put)
    own_cr at x old put step right h =
        let v = request x in
        let mid = own_passed at v old put in
        let n = x.source in
        let end = old.end.end.carrier in
        let coming = units_in old.coming in
        let places = h.none.all.places in
        let k = passes_highest Left first at v n refl old mid step places h.ahead in
        let some : 0 < n = (let less = k.higher in omega (arith, less)) in
        let up : h.ahead.bound ≤ k.ahead.bound = (let less = k.higher in let same = k.bound in omega (arith, less, same)) in
        let none_for = quiet_none n coming h.none.quiet in
        let ready =
        cr_ready h.ahead.bound deeds end x coming put old.judge.traffic old.judge.sessions k.higher h.undone (λ lasts. none_for) in
        record {
          ahead = k.ahead;
          none = record {
            sure = sure_claim.passes Left at v old.judge h.none.sure;
            class = ap (λ (s : State). s.course.class) (unit_knows Left at v old.judge) ∙ left_class v old.judge.traffic ∙ h.none.class;
            all = (any_passes_own Left deeds (known_in end coming) at v old mid step h.none.sure right
                (λ not. (ready.0, ready.1, (some, λ live. sym (ap parts_of none_for)))) (record { all = h.none.all })).all;
            quiet = h.none.quiet;
            new = subst (AreDistinct Left) (sym (unit_joins Left at v old.judge))
                (unit_distinct Left Left at v old.judge.traffic old.judge.sessions places h.none.new
                (gives_new Left first at v old mid step h.ahead)
                (λ i j here.
                all_room Left deeds (known_in end coming) old.put old.begun old.judge.traffic old.judge.sessions h.none.all i j here));
          };
          undone = undone_higher h.ahead.bound k.ahead.bound deeds end up h.undone;
          shut = h.shut;
          some = λ begun. absurd (cc begun);
        }

    -- a unit of the end is a CR
    by_kind : (at : ℕ) (v : Value) (old : Joint) (put : List Value) (w : Whole) → w.judge ≡ old.judge.traffic → PassesOwn w v →
        Steps Left (passes_own at v) old (own_passed at v old put) → IsRight Left v old.judge → Stands old →
        Stands (own_passed at v old put)
    by_kind at v old put w judge (asking x is class) step right h =
        subst (λ (u : Value). Stands (own_passed at u old put)) (sym is)
        (own_cr at x old put (subst (λ (u : Value). Steps Left (passes_own at u) old (own_passed at u old put)) is step)
        (subst (λ (u : Value). IsRight Left u old.judge) is right) h)
    by_kind at v old put w judge (adding last user is class seen) step right h =
        none_some old.judge.traffic.course.class Zero h.none.class (ap (λ (s : State). s.course.class) (sym judge) ∙ class)

    pub unanswered_own_passes : (at : ℕ) (v : Value) (old new : Joint) → Steps Left (passes_own at v) old new → IsRight Left v old.judge →
        Stands old → Stands new
    unanswered_own_passes at v old new (read, octets, (put, begun, is)) right h =
        let mid = own_passed at v old new.put in
        let f = h.ahead.followed in
        let kind = own_unit local (whole_of f) v new.put ((runs_staged local old f).stage right.goes) put begun
        (λ two. none_some old.judge.traffic.course.class Two h.none.class two) in
        subst Stands (sym is) (by_kind at v old new.put (whole_of f) refl kind (read, octets, (put, begun, refl)) right h)
