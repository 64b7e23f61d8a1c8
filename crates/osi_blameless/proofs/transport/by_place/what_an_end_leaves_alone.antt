-- A called end takes a unit for a connection that it does not have open, or it ends: what that is for its connections.
-- For the law on a whole called end.
use Rattle.osi_blameless.proofs.transport.Vocabulary.{[], Act, ActsAlong, AllByRecursion, ap, append-nil, arith, Bool, confirm, Connect}
use Rattle.osi_blameless.proofs.transport.Vocabulary.{Connection}
use Rattle.osi_blameless.proofs.transport.Vocabulary.{eqb-true, false, ignores, inl, inr, is_some, Line, linked, List, Local, None}
use Rattle.osi_blameless.proofs.transport.Vocabulary.{opened_line}
use Rattle.osi_blameless.proofs.transport.Vocabulary.{opened_link, Option, refl, Right, slice_get, Some, Standing, State, subst, sym, true}
use Rattle.osi_blameless.proofs.transport.Vocabulary.{Two, Value}
use Rattle.osi_blameless.proofs.transport.Vocabulary.{value_at, Whole, ℕ, ◌&&◌, ◌++◌, ◌==◌, ◌∙◌, ◌∷◌, ◌≡◌, ◌≢◌, ◌≤◌, ◌⊎◌}
use Rattle.osi_blameless.proofs.transport.small_facts_that_many_lemmas_use.{differ}
use Rattle.osi_blameless.proofs.transport.by_place.each_connection_has_its_place.{stands_at, Among, AreAbove, AreStrays, Called, IsFor}
use Rattle.osi_blameless.proofs.transport.by_place.each_connection_has_its_place.{IsStray, IsUnlinked, Row}
use Rattle.osi_blameless.proofs.transport.by_place.each_connection_has_its_place.{Stand, Untagged, answers, closes, comes, line_of, over}
use Rattle.osi_blameless.proofs.transport.by_place.each_connection_has_its_place.{past, refuses, runs}
use Rattle.osi_blameless.proofs.transport.by_place.each_connection_has_its_place.{talks}
use Rattle.osi_blameless.proofs.transport.connections.units_by_their_place.{Placed, all_at, all_nowhere, at_join, first_at, units_at}
use Rattle.osi_blameless.proofs.transport.connections.units_by_their_place.{values, values_all, values_join}
use Rattle.osi_blameless.proofs.transport.by_place.what_an_end_does_to_its_lines.{above_more, some_more, strays_keep}
use Rattle.osi_blameless.proofs.transport.connections.what_is_live_at_an_end.{Timely, timely_puts}
use Rattle.osi_blameless.proofs.transport.connections.which_units_are_for_a_connection.{those}
use Rattle.osi_blameless.proofs.transport.class_0.a_dt_of_class_zero_passes.{unlike}
use Rattle.osi_blameless.proofs.transport.connections.a_line_since_its_connection_opened.{tracks_on}
use Rattle.osi_blameless.proofs.transport.by_place.each_connection_has_its_place.{running_on}
use Rattle.osi_blameless.proofs.transport.what_each_thing_keeps_all_of_them_keep.{along_join}
use Rattle.osi_blameless.proofs.transport.Vocabulary.{Acts}

-- ---- a unit for a connection that is not open

module _ (local : Local) (w : Whole) (f : Called local w) (t : State) (units : List Value) (coming : List Value) (came : List Placed)
    (n : ℕ) (u : Value) (gone : (q : ℕ) (l : Standing) → value_at n w.end.live ≡ Some (linked q l) → ⊥)
    (gone_then : (q : ℕ) (l : Standing) → value_at n t.live ≡ Some (linked q l) → ⊥) (was : w.end.ended ≡ None)
    (rows : (m : ℕ) → (m ≡ n → ⊥) → value_at m t.live ≡ value_at m w.end.live) (given : t.given ≡ w.end.given)
    (first : those n w.coming ≡ u ∷ those n coming)
    (others : (m : ℕ) → (m ≡ n → ⊥) → those m coming ≡ those m w.coming) (asks : (p : ℕ) → units_at p came ≡ units_at p f.came)
    (shut : ℕ → Bool) (shut_was : (r : ℕ) → shut r ≡ true → (f.shut r ≡ true) ⊎ (r ≡ n)) (shut_still : (r : ℕ) → f.shut r ≡ true →
    shut r ≡ true)
    (shut_given : (r : ℕ) → shut r ≡ true → r ≤ t.given) (strays : AreStrays shut t f.refs f.home w.judge.course.disconnects.strays
    (all_at None units))
    (come_is : coming ≡ values came) (few : AllByRecursion (IsFor w.end.given) coming) (untagged : AllByRecursion Untagged came)
    (no_cc : AllByRecursion (λ (v : Value). (m : ℕ) (x : Connect) → v ≡ confirm m x → ⊥) units)
    (timely : w.judge.course.disconnects.strays ≡ false → t.ended ≡ None →
    Timely Right t coming w.judge.connections (values f.tagged)) where
  abbrev s : State
  s = w.end

  abbrev tagged : List Placed
  tagged = f.tagged ++ all_at None units

  unlinked_still : (r : ℕ) → IsUnlinked s r → IsUnlinked t r
  unlinked_still r h = grind (arith, eqb-true, unlike)

  -- what the line of a connection does
  record Step (r peer : ℕ) (link : Option Standing) (come : List Value) : Type 0 where
    later : List Value
    acts : List Act
    along : (line : Line) → line.end ≡ link → line.coming ≡ come → ActsAlong Right r peer line acts (record line { coming = later })
    row : Row t coming r peer link later
    shut_is : shut r ≡ true → link ≡ None

  step_other : (r peer : ℕ) (link : Option Standing) (come : List Value) → (r ≡ n → ⊥) → (f.shut r ≡ true → link ≡ None) →
      Row t coming r peer link come → Step r peer link come
  step_other r peer link come other h row = grind arith

  row_other : (r peer : ℕ) (link : Option Standing) (come : List Value) → (r ≡ n → ⊥) → Row s w.coming r peer link come →
      Row t coming r peer link come
  row_other r peer link come other (talks k there is among) =
      talks k (rows r other ∙ there) is (subst (Among come) (sym (others r other)) among)
  row_other r peer link come other (closes un is among) = grind (arith, unlinked_still)
  row_other r peer link come other (over h) = differ (is_some s.ended) h (ap is_some was)

  ignores_it : (r peer : ℕ) (link : Option Standing) (come : List Value) → r ≡ n → link ≡ None → IsUnlinked t r →
      Among come (u ∷ those n coming) → Step r peer link come
  ignores_it r peer link come same none un (inl (dc, among)) = grind (arith, closes, those)
  ignores_it r peer link come same none un (inr (zs, e, among)) = record {
    later = zs;
    acts = ignores (u ∷ []) ∷ [];
    along = λ line is k. (record line { coming = zs }, (is ∙ none, k ∙ e, refl), refl);
    row = closes un none (subst (λ (i : ℕ). Among zs (those i coming)) (sym same) among);
    shut_is = λ h. none;
  }

  step_by : (r peer : ℕ) (link : Option Standing) (come : List Value) (b : Bool) → (r == n) ≡ b → (f.shut r ≡ true → link ≡ None) →
      Row s w.coming r peer link come → Step r peer link come
  step_by r peer link come true e h row = grind (arith, ignores_it, unlinked_still, differ)
  step_by r peer link come false e h row = search (arith, step_other, unlike, row_other)

  abbrev StandThen : List Value → Bool → ℕ → Connection → Type 0
  StandThen mine begun i c = Stand local shut t coming mine (units_at i came) begun (f.refs i) c

  stand_on : (i : ℕ) (c : Connection) (mine : List Value) (begun : Bool) →
      Stand local f.shut s w.coming mine (units_at i f.came) begun (f.refs i) c → StandThen mine begun i c
  stand_on i c mine begun (comes x a none ask e) = comes x a none (λ lasts. asks i ∙ ask was) e
  stand_on i c mine begun (refuses x a reason is none e seen) = refuses x a reason is (asks i ∙ none) e seen
  stand_on i c mine begun (answers h none) =
      let g = step_by h.r h.x.source h.link h.come (h.r == n) refl h.shut_is h.row in
      answers (record {
        x = h.x;
        size = h.size;
        r = h.r;
        index = h.index;
        asked = h.asked;
        selected = h.selected;
        link = h.link;
        more = h.more;
        come = g.later;
        mine_is = h.mine_is;
        acts = h.acts ++ g.acts;
        along = λ judge. along_join (Acts Right h.r h.x.source) h.acts g.acts (opened_line (opened_link Two h.size local h.x.credit) judge)
            (line_of h.link h.more h.come judge) (line_of h.link h.more g.later judge) (h.along judge)
            (g.along (line_of h.link h.more h.come judge) refl refl);
        seen = h.seen;
        row = g.row;
        shut_is = g.shut_is;
      }) (asks i ∙ none)
  stand_on i c mine begun (runs h none) =
      let g = step_by h.r h.peer h.line.end h.line.coming (h.r == n) refl h.shut_is h.row in
      let line = record h.line { coming = g.later } in
      runs (running_on h line (tracks_on Right h.r h.peer h.line line g.acts h.tracks (g.along h.line refl refl)) h.judge h.put h.begun_is
      h.there refl refl g.row g.shut_is) (asks i ∙ none)
  stand_on i c mine begun (past silent up none ask un off) =
      past silent up none (asks i ∙ ask) (λ r e. unlinked_still r (un r e)) off

  mine_same : (i : ℕ) → units_at i tagged ≡ units_at i f.tagged
  mine_same i = grind (arith, at_join, all_nowhere, append-nil)

  stand_now : (i : ℕ) (c : Connection) → slice_get w.judge.connections i ≡ Some c →
      StandThen (units_at i tagged) (w.begun && first_at i tagged) i c
  stand_now i c at =
      subst (λ (b : Bool). StandThen (units_at i tagged) b i c) (sym (grind arith))
      (subst (λ (vs : List Value). StandThen vs (w.begun && first_at i f.tagged) i c) (sym (mine_same i))
      (stand_on i c (units_at i f.tagged) (w.begun && first_at i f.tagged) (f.stands i c at)))

  linked_by : (r peer : ℕ) (k : Standing) (b : Bool) → (r == n) ≡ b → value_at r t.live ≡ Some (linked peer k) → f.refs (f.home r) ≡ Some r
  linked_by r peer k b e there = grind (arith, eqb-true, unlike)

  values_are : values tagged ≡ values f.tagged ++ units
  values_are = values_join f.tagged (all_at None units) ∙ ap (λ (vs : List Value). values f.tagged ++ vs) (values_all None units)

  pub left_alone : Called local (record w { end = t; put = w.put ++ units; coming = coming })
  left_alone = record {
    tagged = tagged;
    put = ap (λ (vs : List Value). vs ++ units) f.put ∙ sym values_are;
    came = came;
    come = come_is;
    refs = f.refs;
    home = f.home;
    shut = shut;
    stands = λ i c at. stand_now i c at;
    beyond = grind (arith, mine_same, unlinked_still);
    homes = λ i r e. ((f.homes i r e).0, subst (λ (j : ℕ). r ≤ j) (sym given) (f.homes i r e).1);
    positive = f.positive;
    linked_at = λ lasts r peer k there. linked_by r peer k (r == n) refl there;
    shut_given = shut_given;
    strays = search (arith, strays_keep, all_at, at_join, units_at, all_nowhere, append-nil);
    last = f.last;
    tops = f.tops;
    above = grind (arith, values, values_are, above_more);
    class = f.class;
    two = f.two;
    class_seen = f.class_seen;
    past_two = λ h. subst (λ (j : ℕ). 1 ≤ j) (sym given) (f.past_two h);
    seen_two = f.seen_two;
    some = λ h. subst (λ (vs : List Value). vs ≢ []) (sym values_are) (some_more (values f.tagged) units (f.some h));
    few = subst (λ (j : ℕ). AllByRecursion (IsFor j) coming) (sym given) few;
    untagged = untagged;
    timely = λ none lasts. subst (λ (l : List Value). Timely Right t coming w.judge.connections l) (sym values_are)
        (timely_puts Right t coming w.judge.connections (values f.tagged) units no_cc (timely none lasts));
  }

-- ---- the end

module _ (local : Local) (w : Whole) (f : Called local w) (t : State) (coming : List Value) (came : List Placed)
    (gone : is_some t.ended ≡ true) (given : t.given ≡ w.end.given)
    (asks : (p : ℕ) → units_at p f.came ≡ [] → units_at p came ≡ []) (come_is : coming ≡ values came)
    (few : AllByRecursion (IsFor w.end.given) coming) (untagged : AllByRecursion Untagged came) where
  not_last : {A : Type 0} → t.ended ≡ None → A
  not_last e = differ (is_some t.ended) gone (ap is_some e)

  stand_over : (i : ℕ) (c : Connection) (mine : List Value) (begun : Bool) →
      Stand local f.shut w.end w.coming mine (units_at i f.came) begun (f.refs i) c →
      Stand local f.shut t coming mine (units_at i came) begun (f.refs i) c
  stand_over i c mine begun = stands_at local f.shut w.end t w.coming coming mine (units_at i f.came) (units_at i came) begun (f.refs i) c
      (λ x ask lasts. not_last lasts) (asks i) (λ r peer link come e row. over gone) (λ r e un lasts. not_last lasts)

  stray_over : (v : Value) (later : List Placed) → IsStray f.shut w.end f.refs f.home w.judge.course.disconnects.strays v later →
      IsStray f.shut t f.refs f.home w.judge.course.disconnects.strays v (later ++ [])
  stray_over v later a = search (arith, append-nil)

  pub is_over : Called local (record w { end = t; coming = coming })
  is_over = record {
    tagged = f.tagged;
    put = f.put;
    came = came;
    come = come_is;
    refs = f.refs;
    home = f.home;
    shut = f.shut;
    stands = λ i c at. stand_over i c (units_at i f.tagged) (w.begun && first_at i f.tagged) (f.stands i c at);
    beyond = grind (arith, not_last);
    homes = λ i r e. ((f.homes i r e).0, subst (λ (j : ℕ). r ≤ j) (sym given) (f.homes i r e).1);
    positive = f.positive;
    linked_at = λ lasts. not_last lasts;
    shut_given = λ r e. subst (λ (j : ℕ). r ≤ j) (sym given) (f.shut_given r e);
    strays = subst (λ (l : List Placed). AreStrays f.shut t f.refs f.home w.judge.course.disconnects.strays l) (append-nil f.tagged)
        (strays_keep f.shut f.shut w.end t f.refs f.refs f.home f.home w.judge.course.disconnects.strays f.tagged [] stray_over tt
        f.strays);
    last = f.last;
    tops = f.tops;
    above = subst (λ (j : ℕ). AreAbove j f.last (values f.tagged)) (sym given) f.above;
    class = f.class;
    two = f.two;
    class_seen = f.class_seen;
    past_two = λ h. subst (λ (j : ℕ). 1 ≤ j) (sym given) (f.past_two h);
    seen_two = f.seen_two;
    some = f.some;
    few = subst (λ (j : ℕ). AllByRecursion (IsFor j) coming) (sym given) few;
    untagged = untagged;
    timely = λ none lasts. not_last lasts;
  }
