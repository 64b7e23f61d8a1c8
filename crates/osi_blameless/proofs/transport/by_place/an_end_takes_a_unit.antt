-- A whole called end takes a unit: a CR, a unit for an open connection or for one that is not open, or one for which it ends.
-- For the law on a whole called end.
use Rattle.osi_blameless.proofs.transport.Vocabulary.{[], accept, acceptance, accepts, acknowledge, AllByRecursion, answers_by}
use Rattle.osi_blameless.proofs.transport.Vocabulary.{answers_request, ap}
use Rattle.osi_blameless.proofs.transport.Vocabulary.{append-nil, AreUpTo, arith, asked, before_class, beyond, Bool, CarrierOutcome, Class}
use Rattle.osi_blameless.proofs.transport.Vocabulary.{closing}
use Rattle.osi_blameless.proofs.transport.Vocabulary.{confirm, Connect, Connection, data0, data2, denies, destination_of, disconnect}
use Rattle.osi_blameless.proofs.transport.Vocabulary.{disconnected}
use Rattle.osi_blameless.proofs.transport.Vocabulary.{EndReason, eq-eqb, eqb-true, error, fails, false, has_peer, HoldsOfOne, in_class, inl}
use Rattle.osi_blameless.proofs.transport.Vocabulary.{inr, is_full}
use Rattle.osi_blameless.proofs.transport.Vocabulary.{is_live, is_refused, is_some, IsOrderly, IsSome, Left, linked, List, Live, Local}
use Rattle.osi_blameless.proofs.transport.Vocabulary.{ltb-false}
use Rattle.osi_blameless.proofs.transport.Vocabulary.{ltb-true, None, opened_link, Option, orderly_unit, outcome, outcome_over}
use Rattle.osi_blameless.proofs.transport.Vocabulary.{outcome_quiet, push_here}
use Rattle.osi_blameless.proofs.transport.Vocabulary.{push_other, put_for, puts_none, refl, refuse, request, Right, RiseFrom, Rows}
use Rattle.osi_blameless.proofs.transport.Vocabulary.{selected_by, Selection}
use Rattle.osi_blameless.proofs.transport.Vocabulary.{slice_get, Some, Standing, State, state_is, subst, sym, to_closing, to_connection}
use Rattle.osi_blameless.proofs.transport.Vocabulary.{to_linked}
use Rattle.osi_blameless.proofs.transport.Vocabulary.{to_unknown, true, Two, UnexpectedUnit, unit_octets, Value, value_at, Whole}
use Rattle.osi_blameless.proofs.transport.Vocabulary.{without_here, Zero, ℕ}
use Rattle.osi_blameless.proofs.transport.Vocabulary.{◌&&◌, ◌++◌, ◌+◌, ◌-◌, ◌<◌, ◌==◌, ◌||◌, ◌∙◌, ◌∷◌, ◌≡◌, ◌≤◌, ◌⊎◌}
unfoldable use Rattle.osi_carrier.specs.React.{react}
use Rattle.osi_blameless.proofs.transport.small_facts_that_many_lemmas_use.{and_false, differ, first_is, number_is, or_first, or_last}
use Rattle.osi_blameless.proofs.transport.by_place.an_end_answers_a_cr.{Place, is_accepted, is_refused as refuses_it, place}
use Rattle.osi_blameless.proofs.transport.class_0.an_end_selects_class_zero.{Selecting}
use Rattle.osi_blameless.proofs.transport.names.all_are_judged_unless_one_broke.{IsJudged}
use Rattle.osi_blameless.proofs.transport.class_0.what_an_end_does_in_class_zero.{IsInZero, some_is as same_row, talks as goes_on}
use Rattle.osi_blameless.proofs.transport.names.what_holds_of_one_item.{HoldsOfEach}
use Rattle.osi_blameless.proofs.transport.lines.a_carrier_follows_lines.{follows_open, outcome_at}
use Rattle.osi_blameless.proofs.transport.by_place.how_a_unit_of_right_passes.{Head, head_of, no_list}
use Rattle.osi_blameless.proofs.transport.by_place.each_connection_has_its_place.{Asked, Among, Called, IsDc, IsFor, IsNoCr, Stand}
use Rattle.osi_blameless.proofs.transport.by_place.each_connection_has_its_place.{Untagged, answers}
use Rattle.osi_blameless.proofs.transport.by_place.each_connection_has_its_place.{comes, past, refuses, runs}
use Rattle.osi_blameless.proofs.transport.connections.units_by_their_place.{Placed, at_first, first_at, units_at, values}
use Rattle.osi_blameless.proofs.transport.by_place.what_an_end_does_to_its_lines.{Leaves, Took, line_steps}
use Rattle.osi_blameless.proofs.transport.by_place.what_an_end_leaves_alone.{is_over, left_alone}
use Rattle.osi_blameless.proofs.transport.connections.what_is_live_at_an_end.{IsLive, Timely, shuts_of, timely_takes}
use Rattle.osi_blameless.proofs.transport.connections.which_units_are_for_a_connection.{first_kept, first_left, named_not, named_so, those}
use Rattle.osi_blameless.proofs.transport.by_place.what_becomes_of_an_end.{above_up, rows_none, IsCalled, Same, called_still, no_row}
use Rattle.osi_blameless.proofs.transport.by_place.what_becomes_of_an_end.{touch_rows, touch_none}
use Rattle.osi_blameless.proofs.transport.by_place.what_becomes_of_an_end.{touch_lives, push_lives, OpenSo, open_so}
use Rattle.osi_blameless.proofs.transport.by_place.what_becomes_of_an_end.{dc_follows}
use Rattle.osi_blameless.proofs.transport.by_place.what_becomes_of_an_end.{closing_touches, closing_puts, closing_same}
use Rattle.osi_blameless.proofs.transport.by_place.an_end_makes_a_call.{given_same, same_peer}
use Rattle.osi_blameless.proofs.transport.class_0.a_dt_of_class_zero_passes.{unlike}
use Rattle.osi_blameless.proofs.transport.requests.a_cc_is_put_only_for_a_cr.{none_but_cr}

-- ---- small facts

shut_one : (r n : ℕ) (a b : Bool) → (r == n) ≡ a → (a || b) ≡ true → (b ≡ true) ⊎ (r ≡ n)
shut_one r n a b e h = grind (arith, eqb-true)

shut_up : (r n given : ℕ) (b : Bool) → n ≤ given → (b ≡ true → r ≤ given) → (b ≡ true) ⊎ (r ≡ n) → r ≤ given
shut_up r n given b up h l = grind arith

given_so : (n given source reason : ℕ) (user : List ℕ) → ((n ≤ given) × (1 ≤ n)) ⊎ IsDc (disconnect n source reason user) →
    (n ≤ given) × (1 ≤ n)
given_so n given source reason user k = grind arith

ended_some : (o : Option EndReason) (reason : EndReason) → o ≡ Some reason → IsSome o
ended_some o reason e = ap is_some e

not_above : (m n : ℕ) → (n < m → ⊥) → m ≤ n
not_above m n h = grind (arith, ltb-true, ltb-false)

above_none : (given m : ℕ) (o : Live) (rows : Rows Live) → AreUpTo given rows → given < m → value_at m rows ≡ Some o → ⊥
above_none given m o rows up above there = no_row (value_at m rows) o (beyond m given rows up above) there

up_more : (given m : ℕ) (o : Live) (rows : Rows Live) → AreUpTo given rows → value_at m rows ≡ Some o → m ≤ given
up_more given m o rows up there = not_above m given (λ above. above_none given m o rows up above there)

-- rows with one more
up_by : (given m : ℕ) (o k : Live) (rows : Rows Live) → AreUpTo given rows → value_at m (rows ++ (given + 1, k) ∷ []) ≡ Some o →
    (m ≡ given + 1 → ⊥) → m ≤ given
up_by given m o k rows up there other = up_more given m o rows up (sym (push_other m (given + 1) k rows other) ∙ there)

accepted_none : (m given : ℕ) (k : Live) (rows : Rows Live) → value_at (given + 1) rows ≡ None →
    ((i : ℕ) → value_at i rows ≡ Some asked → ⊥) → (k ≡ asked → ⊥) → value_at m (rows ++ (given + 1, k) ∷ []) ≡ Some asked → ⊥
accepted_none m given k rows none h settled there = grind (arith, same_row, push_here, eqb-true, push_other, unlike)

closing_gone : (n q p : ℕ) (k : Standing) (u : Value) (s : State) → value_at n s.live ≡ Some (closing q) → RiseFrom 0 s.live →
    value_at n (to_closing n u s).state.live ≡ Some (linked p k) → ⊥
closing_gone n q p k u s here rise row = grind (arith, without_here)

-- ---- the unit, and what comes after it

tail_none : (p : ℕ) (o : Option ℕ) (v : Value) (ts : List Placed) → units_at p ((o, v) ∷ ts) ≡ [] → units_at p ts ≡ []
tail_none p o v ts h = grind arith

untag_by : {A : Type 0} (o : Option ℕ) (x : Connect) → Untagged (o, request x) → ((p : ℕ) → o ≡ Some p → A) → A
untag_by None x h k = absurd (h refl x refl)
untag_by (Some p) x h k = k p refl

either_none : (k : Option Class) → (k ≡ None) ⊎ (k ≡ Some Two) → (k ≡ Some Two → ⊥) → k ≡ None
either_none k l h = grind arith

module _ (local : Local) (w : Whole) (f : Called local w) (c : IsCalled local w.end)
    (u : Value) (later : List Value) (come : w.coming ≡ u ∷ later) where
  abbrev s : State
  s = w.end

  abbrev t : State
  t = react u s

  abbrev After : State → List Value → Whole
  After e units = record w { end = e; put = w.put ++ units; coming = later }

  abbrev Taken : Type 0
  Taken = Called local (After t (put_for u s)) × IsCalled local t

  abbrev did : CarrierOutcome
  did = outcome u s

  t_is : (x : CarrierOutcome) → did ≡ x → t ≡ x.state
  t_is x is = state_is u s ∙ ap (λ (y : CarrierOutcome). y.state) is

  -- by what is done with it
  by_both : (x : CarrierOutcome) → did ≡ x → Called local (After x.state x.put) × IsCalled local x.state → Taken
  by_both x is h =
      subst (λ (e : State). Called local (After e did.put) × IsCalled local e) (sym (state_is u s))
      (subst (λ (y : CarrierOutcome). Called local (After y.state y.put) × IsCalled local y.state) (sym is) h)

  head : Head u later f.came
  head = head_of u later f.came (sym come ∙ f.come)

  few_all : IsFor s.given u × AllByRecursion (IsFor s.given) later
  few_all = subst (AllByRecursion (IsFor s.given)) come f.few

  untagged_all : Untagged (head.o, u) × AllByRecursion Untagged head.later
  untagged_all = subst (AllByRecursion Untagged) head.is f.untagged

  timely_then : s.ended ≡ None → (e : State) → s.given ≤ e.given → ((m : ℕ) → IsLive s m → (shuts_of Right u ≡ Some m → ⊥) → IsLive e m) →
      w.judge.course.disconnects.strays ≡ false → Timely Right e later w.judge.connections (values f.tagged)
  timely_then was e given lives none = timely_takes Right s e u later w.judge.connections (values f.tagged) given lives
      (subst (λ (l : List Value). Timely Right s l w.judge.connections (values f.tagged)) come (f.timely none was))

  -- a DR for what is gone comes only if a DR has closed nothing
  gone_dr : s.ended ≡ None → (n source reason : ℕ) (user : List ℕ) → u ≡ disconnect n source reason user → value_at n s.live ≡ None →
      (b : Bool) → w.judge.course.disconnects.strays ≡ b → b ≡ true
  gone_dr was n source reason user e here b is = grind (arith, differ)

  -- ---- the end has ended, or ends

  asks_later : (p : ℕ) → units_at p f.came ≡ [] → units_at p head.later ≡ []
  asks_later p h = tail_none p head.o u head.later (ap (λ (l : List Placed). units_at p l) (sym head.is) ∙ h)

  over_so : (e : State) → did ≡ puts_none e → is_some e.ended ≡ true → Same s e → e.live ≡ [] → Taken
  over_so e is over same live = by_both (puts_none e) is (
    subst (λ (l : List Value). Called local (record w { end = e; put = l; coming = later })) (sym (append-nil w.put))
        (is_over local w f e later head.later over same.given asks_later head.values_are few_all.1 untagged_all.1),
    called_still local s e same (subst IsOrderly (t_is (puts_none e) is) (orderly_unit u s c.orderly))
        (λ m h. no_row (value_at m e.live) asked (ap (λ (l : Rows Live). value_at m l) live) h)
        (λ m q l h. no_row (value_at m e.live) (linked q l) (ap (λ (r : Rows Live). value_at m r) live) h) c,
  )

  -- ---- a CR

  asks_request : {A : Type 0} (x : Connect) → u ≡ request x → ((p : ℕ) → f.came ≡ (Some p, request x) ∷ head.later → A) → A
  asks_request x e k = grind (arith, untag_by, head, untagged_all)

  denies_so : (was : s.ended ≡ None) (x : Connect) (reason : ℕ) → u ≡ request x → did ≡ denies reason x.source s → Taken
  denies_so was x reason e is = asks_request x e (λ p came. by_both (denies reason x.source s) is (
    refuses_it local w f was p x head.later came later head.values_are few_all.1 (denies reason x.source s).state reason refl refl
        (λ none last. timely_then was (denies reason x.source s).state (given_same refl) (λ m k other. k) none),
    called_still local s (denies reason x.source s).state (record { caller = refl; local_is = refl; class = refl; given = refl })
        (subst IsOrderly (t_is (denies reason x.source s) is) (orderly_unit u s c.orderly)) c.none c.two c,
  ))

  accepts_so : (was : s.ended ≡ None) (x : Connect) (size : Option ℕ) → u ≡ request x → selected_by x s.local ≡ accept Two size →
      did ≡ accepts Two size x s → Taken
  accepts_so was x size e selected is = asks_request x e (λ p came.
      let a = (accepts Two size x s).state in
      let none : value_at (s.given + 1) s.live ≡ None = beyond (s.given + 1) s.given s.live c.orderly.up_to (omega arith) in
      by_both (accepts Two size x s) is (
        subst (λ (l : Local). Called local (After a (confirm x.source (acceptance Two size x l (s.given + 1)) ∷ []))) (sym c.local_is)
            (is_accepted local w f was p x head.later came later head.values_are few_all.1 a size
            (ap (λ (l : Local). selected_by x l) (sym c.local_is) ∙ selected) refl
            (λ m up. push_other m (s.given + 1) (linked x.source (opened_link Two size s.local x.credit)) s.live
            (λ same. absurd (omega arith)))
            (push_here (s.given + 1) (linked x.source (opened_link Two size s.local x.credit)) s.live none
            ∙ ap (λ (l : Local). Some (linked x.source (opened_link Two size l x.credit))) c.local_is)
            (λ m peer l there other. up_by s.given m (linked peer l) (linked x.source (opened_link Two size s.local x.credit)) s.live
            c.orderly.up_to there other)
            (λ none last. timely_then was a (omega arith) (λ m k other. push_lives m (s.given + 1)
            (linked x.source (opened_link Two size s.local x.credit))
            s.live k) none)),
        record {
          caller = c.caller;
          local_is = c.local_is;
          class = inr refl;
          orderly = subst IsOrderly (t_is (accepts Two size x s) is) (orderly_unit u s c.orderly);
          none = λ m there. accepted_none m s.given (linked x.source (opened_link Two size s.local x.credit)) s.live none c.none (λ k. cc)
              there;
          two = λ m q l there. refl;
          none_given = λ h. absurd (cc h);
        },
      ))

  -- class 0 is selected
  pub record SelectsZero : Type 0 where
    pub x : Connect
    pub size : Option ℕ
    pub is_cr : u ≡ request x
    pub was : s.ended ≡ None
    pub selected : selected_by x s.local ≡ accept Zero size
    pub none : s.class ≡ None
    pub is : did ≡ accepts Zero size x s

  zero_so : (was : s.ended ≡ None) (x : Connect) (size : Option ℕ) → u ≡ request x → selected_by x s.local ≡ accept Zero size →
      (k : Option Class) → s.class ≡ k → did ≡ answers_by x (accept Zero size) s.class s → Taken ⊎ SelectsZero
  zero_so was x size e selected None none is = inr (record {
    x = x;
    size = size;
    is_cr = e;
    was = was;
    selected = selected;
    none = none;
    is = is ∙ ap (λ (k : Option Class). answers_by x (accept Zero size) k s) none;
  })
  zero_so was x size e selected (Some class) none is =
      inl (denies_so was x 136 e (is ∙ ap (λ (k : Option Class). answers_by x (accept Zero size) k s) none))

  selects_so : (was : s.ended ≡ None) (x : Connect) (a : Selection) → u ≡ request x → selected_by x s.local ≡ a →
      did ≡ answers_by x a s.class s → Taken ⊎ SelectsZero
  selects_so was x (refuse reason) e selected is = inl (denies_so was x reason e is)
  selects_so was x (accept Two size) e selected is = inl (accepts_so was x size e selected is)
  selects_so was x (accept Zero size) e selected is = zero_so was x size e selected s.class refl is

  request_so : (was : s.ended ≡ None) (x : Connect) (a b : Bool) → u ≡ request x → has_peer x.source s.live ≡ a → is_full s ≡ b →
      did ≡ answers_request x s → Taken ⊎ SelectsZero
  request_so was x true b e has full is = grind (arith, denies_so was x 131 e (grind arith))
  request_so was x false true e has full is = grind (arith, denies_so was x 1 e (grind arith))
  request_so was x false false e has full is = grind (arith, selects_so was x (selected_by x s.local) e refl (grind arith))

  -- ---- a unit for a connection

  module _ (was : s.ended ≡ None) (two : s.class ≡ Some Two) (n : ℕ) (dest : destination_of u ≡ Some n) where
    first_n : those n w.coming ≡ u ∷ those n later
    first_n = ap (λ (l : List Value). those n l) come ∙ first_kept n u later (named_so n u dest)

    others_n : (m : ℕ) → (m ≡ n → ⊥) → those m later ≡ those m w.coming
    others_n m other = sym (ap (λ (l : List Value). those m l) come ∙ first_left m u later (named_not n m u (λ e. other (sym e)) dest))

    not_request : IsNoCr u
    not_request x e = absurd (cc (sym dest ∙ ap destination_of e))

    asked_one : (q : ℕ) (x : Connection) → units_at q f.came ≡ u ∷ units_at q head.later →
        Stand local f.shut s w.coming (units_at q f.tagged) (units_at q f.came) (w.begun && first_at q f.tagged) (f.refs q) x → ⊥
    asked_one q x e h = grind (arith, not_request, first_is, units_at, head, no_list)

    asked_by_place : (q : ℕ) (o : Option Connection) → slice_get w.judge.connections q ≡ o →
        units_at q f.came ≡ u ∷ units_at q head.later → ⊥
    asked_by_place q None e h = no_list u (units_at q head.later) (units_at q f.came) h (f.beyond q e).1
    asked_by_place q (Some x) e h = asked_one q x h (f.stands q x e)

    asks_same : (p : ℕ) → units_at p head.later ≡ units_at p f.came
    asks_same p = grind (arith, asked_by_place, at_first, head)

    at_n : (o : Option Live) → value_at n s.live ≡ o → did ≡ to_connection n o u s
    at_n o here = outcome_at u s n o two was dest here

    took_by : (peer : ℕ) (k : Standing) → value_at n s.live ≡ Some (linked peer k) → (line : List Value) → Among line (u ∷ those n later) →
        Took n peer s t later (put_for u s) line
    took_by peer k row line (inl ((m, i, e), among)) =
        grind (arith, dc_follows n peer m i k s row two was (ap destination_of (sym e) ∙ dest))
    took_by peer k row line (inr (zs, e, among)) = grind (arith, follows_open u s n peer k c.orderly.rise two was row dest)

    -- the end has it open
    at_open : (q : ℕ) (l : Standing) → value_at n s.live ≡ Some (linked q l) → Taken
    at_open q l here =
        let is = t_is (to_linked n q l u s) (at_n (Some (linked q l)) here) in
        let a : OpenSo u n q s t = subst (λ (e : State). OpenSo u n q s e) (sym is) (open_so n q l u s here two c.orderly.rise dest) in
        let lasts : t.ended ≡ None = a.ended ∙ was in (
          line_steps local w f t (put_for u s) later head.later n q l here was (λ m other. touch_rows u n s t a.touch lasts m other)
              a.same.given
              others_n asks_same (λ peer k row line among. took_by peer k row line (subst (Among line) first_n among))
              (λ peer k row. subst (λ (i : ℕ). Leaves n i t) (same_peer q peer l k (sym here ∙ row)) a.leaves_so)
              head.values_are few_all.1 untagged_all.1
              (none_but_cr u s not_request)
              (λ none last. timely_then was t (given_same a.same.given) (λ m k other. touch_lives u n s t a.touch last m k other) none),
          called_still local s t a.same (orderly_unit u s c.orderly) (touch_none u n s t a.touch c.orderly.rise c.none) (λ m p k h. two) c,
        )

    -- it is closing
    at_closing : (q : ℕ) → value_at n s.live ≡ Some (closing q) → Taken
    at_closing q here =
        let e = (to_closing n u s).state in
        let is : did ≡ puts_none e = at_n (Some (closing q)) here ∙ closing_puts n u s in
        let (same, ended) = closing_same n u s in
        let touch = closing_touches n u s dest in
        let lasts = ended ∙ was in
        by_both (puts_none e) is (
          left_alone local w f e [] later head.later n u (λ p k row. absurd (cc (sym here ∙ row)))
              (λ p k row. closing_gone n q p k u s here c.orderly.rise row) was
              (λ m other. touch_rows u n s e touch lasts m other) same.given first_n others_n asks_same f.shut (λ r h. inl h) (λ r h. h)
              (λ r h. subst (λ (i : ℕ). r ≤ i) (sym same.given) (f.shut_given r h)) tt head.values_are few_all.1 untagged_all.1 tt
              (λ none last. timely_then was e (given_same same.given) (λ m k other. touch_lives u n s e touch last m k other) none),
          called_still local s e same (subst IsOrderly (t_is (puts_none e) is) (orderly_unit u s c.orderly))
              (touch_none u n s e touch c.orderly.rise c.none)
              (λ m p k h. two) c,
        )

    -- it is gone, and the unit is a DC
    at_gone : value_at n s.live ≡ None → did ≡ puts_none s → Taken
    at_gone here is = by_both (puts_none s) is (
      left_alone local w f s [] later head.later n u (λ p k row. no_row (value_at n s.live) (linked p k) here row)
          (λ p k row. no_row (value_at n s.live) (linked p k) here row) was (λ m other. refl) refl first_n others_n asks_same f.shut
          (λ r h. inl h) (λ r h. h) (λ r h. f.shut_given r h) tt head.values_are few_all.1 untagged_all.1 tt
          (λ none last. timely_then was s (given_same refl) (λ m k other. k) none),
      c,
    )

    -- it is gone, and the unit is a DR
    at_dr : (source reason : ℕ) (user : List ℕ) → u ≡ disconnect n source reason user → value_at n s.live ≡ None →
        did ≡ to_unknown (disconnect n source reason user) s → Taken
    at_dr source reason user e here is =
        let x = to_unknown (disconnect n source reason user) s in
        let a = x.state in
        let dr : IsFor s.given (disconnect n source reason user) = subst (IsFor s.given) e few_all.0 in
        let (given, one) = given_so n s.given source reason user (dr n refl) in
        let strays = gone_dr was n source reason user e here w.judge.course.disconnects.strays refl in
        by_both x is (
          left_alone local w f a (disconnected source n ∷ []) later head.later n u
              (λ p k row. no_row (value_at n s.live) (linked p k) here row)
              (λ p k row. no_row (value_at n s.live) (linked p k) here row) was (λ m other. refl) refl first_n others_n asks_same
              (λ r. (r == n) || f.shut r) (λ r h. shut_one r n (r == n) (f.shut r) refl h) (λ r h. or_last (r == n) (f.shut r) h)
              (λ r h. shut_up r n s.given (f.shut r) given (λ k. f.shut_given r k) (shut_one r n (r == n) (f.shut r) refl h)) (
                record {
                  m = source;
                  n = n;
                  is = refl;
                  strays_is = strays;
                  given = given;
                  positive = one;
                  shut_is = or_first (n == n) (f.shut n) (eq-eqb n n refl);
                  none = λ k. refl;
                },
                tt,
              )
              head.values_are few_all.1 untagged_all.1 (λ m x k. absurd (cc k), tt)
              (λ none last. timely_then was a (given_same refl) (λ m k other. k) none),
          called_still local s a (record { caller = refl; local_is = refl; class = refl; given = refl })
              (subst IsOrderly (t_is x is) (orderly_unit u s c.orderly)) c.none c.two c,
        )

    unknown : (v : Value) → u ≡ v → value_at n s.live ≡ None → Taken
    unknown (request x) e here = absurd (not_request x e)
    unknown (disconnect destination source reason user) e here =
        let same : destination ≡ n = number_is destination n (ap destination_of (sym e) ∙ dest) in
        let v_is = e ∙ ap (λ (i : ℕ). disconnect i source reason user) same in
        at_dr source reason user v_is here (at_n None here ∙ ap (λ (v : Value). to_unknown v s) v_is)
    unknown (disconnected destination source) e here = at_gone here (at_n None here ∙ ap (λ (v : Value). to_unknown v s) e)
    unknown x e here = over_so (to_unknown x s).state (at_n None here ∙ ap (λ (v : Value). to_unknown v s) e) refl
        (record { caller = refl; local_is = refl; class = refl; given = refl }) refl

    by_row : (o : Option Live) → value_at n s.live ≡ o → Taken
    by_row None here = unknown u refl here
    by_row (Some asked) here = absurd (c.none n here)
    by_row (Some (linked q l)) here = at_open q l here
    by_row (Some (closing q)) here = at_closing q here

  -- ---- any unit

  wrong_so : did ≡ puts_none (fails UnexpectedUnit s) → Taken
  wrong_so is = over_so (fails UnexpectedUnit s) is refl (record { caller = refl; local_is = refl; class = refl; given = refl }) refl

  on : (was : s.ended ≡ None) → did ≡ in_class s.class u s
  on was = outcome_quiet u s was

  before_by : (was : s.ended ≡ None) → (v : Value) → u ≡ v → did ≡ before_class false v s → Taken ⊎ SelectsZero
  before_by was (request x) e to = request_so was x (has_peer x.source s.live) (is_full s) e refl refl to
  before_by was v e to = inl (wrong_so to)

  two_by : (was : s.ended ≡ None) → s.class ≡ Some Two → (v : Value) → u ≡ v → Taken ⊎ SelectsZero
  two_by was two (request x) e = request_so was x (has_peer x.source s.live) (is_full s) e refl refl (grind (arith, on))
  two_by was two (data0 end user) e =
      inl (wrong_so (grind (arith, on)))
  two_by was two (confirm destination x) e = inl (by_row was two destination (ap destination_of e) (value_at destination s.live) refl)
  two_by was two (disconnect destination source reason user) e = inl (by_row was two destination (ap destination_of e)
      (value_at destination s.live) refl)
  two_by was two (disconnected destination source) e = inl (by_row was two destination (ap destination_of e) (value_at destination s.live)
      refl)
  two_by was two (data2 destination number end user) e = inl (by_row was two destination (ap destination_of e)
      (value_at destination s.live) refl)
  two_by was two (acknowledge credit destination number) e = inl (by_row was two destination (ap destination_of e)
      (value_at destination s.live) refl)
  two_by was two (error destination cause) e = inl (by_row was two destination (ap destination_of e) (value_at destination s.live) refl)

  by_class : (was : s.ended ≡ None) → (s.class ≡ None) ⊎ (s.class ≡ Some Two) → Taken ⊎ SelectsZero
  by_class was (inl none) = grind (arith, on, before_by)
  by_class was (inr two) = two_by was two u refl

  pub takes_so : Taken ⊎ SelectsZero
  takes_so = grind (arith, by_class, over_so, outcome_over, ended_some)

  -- ---- class 0 is selected

  pub class_none : SelectsZero → w.judge.course.class ≡ None
  class_none z = grind (arith, either_none)

  module _ (z : SelectsZero) (one : w.judge.course.class ≡ None → HoldsOfOne (is_live Left) w.judge.connections)
      (judged : HoldsOfEach IsJudged w.judge.connections) where
    no_ref : {A : Type 0} (i r : ℕ) → f.refs i ≡ Some r → A
    no_ref i r e =
        let low = f.positive i r e in
        let up = (f.homes i r e).1 in
        absurd (omega arith)

    seen_none : w.judge.course.class_seen ≡ None
    seen_none = either_none w.judge.course.class_seen f.class_seen (λ two. absurd (cc (sym (class_none z) ∙ f.seen_two two)))

    asked_live : (y : Connect) (e : Connection) → Asked y e → is_live Left e ≡ true
    asked_live y e a = grind (arith, and_false)

    module _ (p : ℕ) (came : f.came ≡ (Some p, request z.x) ∷ head.later) where
      abbrev here : Place local w f z.was p z.x head.later came later head.values_are few_all.1
      here = place local w f z.was p z.x head.later came later head.values_are few_all.1

      one_asked : (i : ℕ) (e : Connection) (y : Connect) → slice_get w.judge.connections i ≡ Some e → Asked y e → i ≡ p
      one_asked i e y at a = one (class_none z) i p e here.c at here.at (judged i e at) (judged p here.c here.at) (asked_live y e a)
          (asked_live z.x here.c here.asked)

      other_one : (i : ℕ) (e : Connection) → slice_get w.judge.connections i ≡ Some e → (i ≡ p → ⊥) →
          Stand local f.shut s w.coming (units_at i f.tagged) (units_at i f.came) (w.begun && first_at i f.tagged) (f.refs i) e →
          is_refused e.right.phase ≡ true
      other_one i e at other (comes y a none ask o) = absurd (other (one_asked i e y at a))
      other_one i e at other (refuses y a reason is none o seen) = absurd (other (one_asked i e y at a))
      other_one i e at other (answers h none) = no_ref i h.r h.index
      other_one i e at other (runs g none) = no_ref i g.r g.index
      other_one i e at other (past silent up none ask un (inl (ref, answered))) = no_ref i e.right.reference ref
      other_one i e at other (past silent up none ask un (inr (refused, seen, judged))) = refused

      none_at : (q : ℕ) (v : Value) (ts : List Placed) → f.tagged ≡ (Some q, v) ∷ ts → (e : Connection) → slice_get w.judge.connections
          q ≡ Some e →
          Stand local f.shut s w.coming (units_at q f.tagged) (units_at q f.came) (w.begun && first_at q f.tagged) (f.refs q) e → ⊥
      none_at q v ts is e at (comes y a none ask o) = grind (arith, no_list, units_at, at_first)
      none_at q v ts is e at (refuses y a reason mine none o seen) =
          grind (arith, no_list, units_at q ts, units_at q f.tagged, at_first q v ts, one_asked q e y at a)
      none_at q v ts is e at (answers h none) = no_ref q h.r h.index
      none_at q v ts is e at (runs g none) = no_ref q g.r g.index
      none_at q v ts is e at (past silent up none ask un off) = grind (arith, no_list, units_at, at_first)

      none_by_place : (q : ℕ) (v : Value) (ts : List Placed) → f.tagged ≡ (Some q, v) ∷ ts → (o : Option Connection) →
          slice_get w.judge.connections q ≡ o → ⊥
      none_by_place q v ts is None e = grind (arith, no_list, units_at, at_first)
      none_by_place q v ts is (Some e) at = none_at q v ts is e at (f.stands q e at)

      none_tagged : (ts : List Placed) → f.tagged ≡ ts → values ts ≡ []
      none_tagged [] is = refl
      none_tagged ((Some q, v) ∷ ts) is = absurd (none_by_place q v ts is (slice_get w.judge.connections q) refl)
      none_tagged ((None, v) ∷ ts) is = grind arith

      none_put : values f.tagged ≡ []
      none_put = none_tagged f.tagged refl

      live_none : s.live ≡ []
      live_none = rows_none s.given s.live (c.none_given z.none) c.orderly.rise c.orderly.up_to

      zero_end : IsInZero (unit_octets z.size - 3) (accepts Zero z.size z.x s).state 0 []
      zero_end = goes_on (s.given + 1) z.x.source (opened_link Zero z.size s.local z.x.credit) refl
          (ap (λ (l : Rows Live). l ++ (s.given + 1, linked z.x.source (opened_link Zero z.size s.local z.x.credit)) ∷ []) live_none)
          (record { flow = refl; size = refl }) refl

      selecting : Selecting local (After t (put_for u s))
      selecting = record {
        x = z.x;
        size = z.size;
        r = s.given + 1;
        p = p;
        c = here.c;
        at = here.at;
        asked = here.asked;
        selected = ap (λ (l : Local). selected_by z.x l) (sym c.local_is) ∙ z.selected;
        more = [];
        put = ap (λ (l : List Value). l ++ put_for u s) (f.put ∙ none_put) ∙ ap (λ (x : CarrierOutcome). x.put) z.is;
        seen = λ b. absurd (f.some b none_put);
        class = class_none z;
        class_seen = seen_none;
        unused = grind (arith, above_up, values);
        others = λ i e at other. other_one i e at other (f.stands i e at);
        end = subst (λ (x : State). IsInZero (unit_octets z.size - 3) x 0 []) (sym (t_is (accepts Zero z.size z.x s) z.is)) zero_end;
      }

    pub selects_zero : Selecting local (After t (put_for u s))
    selects_zero = asks_request z.x z.is_cr (λ p came. selecting p came)
