-- A called end takes a CR, and puts its answer: a DR that refuses it, or a CC with the next reference.
-- For the law on a whole called end.
use Rattle.osi_blameless.proofs.transport.Vocabulary.{[], accept, acceptance, AllByRecursion, ap, append-nil, arith, Bool, confirm, Connect}
use Rattle.osi_blameless.proofs.transport.Vocabulary.{Connection}
use Rattle.osi_blameless.proofs.transport.Vocabulary.{disconnect, eq-eqb, eqb-true, false, if◌then◌else◌, is_some, linked, List, Live}
use Rattle.osi_blameless.proofs.transport.Vocabulary.{Local, None}
use Rattle.osi_blameless.proofs.transport.Vocabulary.{opened_link, Option, refl, request, Right, Rows, selected_by, slice_get, Some}
use Rattle.osi_blameless.proofs.transport.Vocabulary.{Standing, State}
use Rattle.osi_blameless.proofs.transport.Vocabulary.{subst, sym, true, Two, Value, value_at, Whole, ℕ, ◌&&◌, ◌++◌, ◌+◌, ◌<◌, ◌==◌, ◌∙◌}
use Rattle.osi_blameless.proofs.transport.Vocabulary.{◌∷◌, ◌≡◌, ◌≢◌}
use Rattle.osi_blameless.proofs.transport.Vocabulary.{◌≤◌, ◌⊎◌}
use Rattle.osi_blameless.proofs.transport.small_facts_that_many_lemmas_use.{and_second, differ, no_number, number_is}
use Rattle.osi_blameless.proofs.transport.by_place.each_connection_has_its_place.{stands_at, Among, AreAbove, Answering, Asked, Called}
use Rattle.osi_blameless.proofs.transport.by_place.each_connection_has_its_place.{IsDc, IsFor, IsStray}
use Rattle.osi_blameless.proofs.transport.by_place.each_connection_has_its_place.{IsUnlinked, Row, Stand, Untagged, answers, closes}
use Rattle.osi_blameless.proofs.transport.by_place.each_connection_has_its_place.{first_some, over, refuses}
use Rattle.osi_blameless.proofs.transport.by_place.each_connection_has_its_place.{talks}
use Rattle.osi_blameless.proofs.transport.connections.units_by_their_place.{Placed, at_first, at_join, at_other, first_at, units_at, values}
use Rattle.osi_blameless.proofs.transport.connections.units_by_their_place.{values_join}
use Rattle.osi_blameless.proofs.transport.by_place.what_an_end_does_to_its_lines.{above_more, some_more, strays_keep}
use Rattle.osi_blameless.proofs.transport.connections.what_is_live_at_an_end.{IsKnown, IsLive, Timely, timely_gives, timely_puts}
use Rattle.osi_blameless.proofs.transport.connections.which_units_are_for_a_connection.{those}
use Rattle.osi_blameless.proofs.transport.class_0.a_dt_of_class_zero_passes.{unlike}
use Rattle.osi_blameless.proofs.transport.by_place.how_a_unit_of_right_passes.{no_list}
use Rattle.osi_blameless.proofs.transport.by_place.what_comes_to_an_end.{no_item}

rest_none : (v : Value) (vs l : List Value) → l ≡ v ∷ vs → (x : Value) → l ≡ x ∷ [] → vs ≡ []
rest_none v vs l h x e = cc

request_is : (x y : Connect) (vs ys l : List Value) → l ≡ request x ∷ vs → l ≡ request y ∷ ys → x ≡ y
request_is x y vs ys l h e = cc

pub item_is : (c e : Connection) (o : Option Connection) → o ≡ Some c → o ≡ Some e → c ≡ e
item_is c e o h k = cc

place_not : (b : Bool) (c : Bool) → c ≡ b → (b ≡ true → ⊥) → b ≡ false
place_not b c e h = grind arith

dcs_alone : (given r : ℕ) (vs : List Value) → given < r → AllByRecursion (IsFor given) vs → Among [] (those r vs)
dcs_alone given r [] above h = refl
dcs_alone given r (v ∷ vs) above (one, more) = grind (arith, those, dcs_alone given r vs above more)

above_cc : (given n : ℕ) (vs : List Value) (m : ℕ) (x : Connect) → x.source ≡ given + 1 → AreAbove given n vs →
    AreAbove (given + 1) n (vs ++ confirm m x ∷ [])
above_cc given n [] m x e h = (omega arith, omega arith)
above_cc given n (confirm destination y ∷ vs) m x e (above, h) = (above, above_cc given y.source vs m x e h)
above_cc given n (_ ∷ vs) m x e h = above_cc given n vs m x e h

for_by : (given m : ℕ) (v : Value) → ((m ≤ given) × (1 ≤ m)) ⊎ IsDc v → ((m ≤ given + 1) × (1 ≤ m)) ⊎ IsDc v
for_by given m v k = grind arith

for_more : (given : ℕ) (vs : List Value) → AllByRecursion (IsFor given) vs → AllByRecursion (IsFor (given + 1)) vs
for_more given [] h = tt
for_more given (v ∷ vs) (one, more) = (λ m e. for_by given m v (one m e), for_more given vs more)

-- ---- the place of the CR

same_confirm : (m n : ℕ) (x y : Connect) → confirm m x ≡ confirm n y → x ≡ y
same_confirm m n x y e = cc

module _ (local : Local) (w : Whole) (f : Called local w) (was : w.end.ended ≡ None) (p : ℕ) (x : Connect) (later : List Placed)
    (came : f.came ≡ (Some p, request x) ∷ later) (coming : List Value) (come_is : coming ≡ values later)
    (few : AllByRecursion (IsFor w.end.given) coming) where
  abbrev s : State
  s = w.end

  asks_here : units_at p f.came ≡ request x ∷ units_at p later
  asks_here = ap (λ (l : List Placed). units_at p l) came ∙ at_first p (request x) later

  asks_other : (i : ℕ) → (i ≡ p → ⊥) → units_at i later ≡ units_at i f.came
  asks_other i other = sym (ap (λ (l : List Placed). units_at i l) came ∙ at_other i p (request x) later (λ e. other (sym e)))

  those_same : (m : ℕ) → those m coming ≡ those m w.coming
  those_same m = grind arith

  untagged_later : AllByRecursion Untagged later
  untagged_later = (subst (AllByRecursion Untagged) came f.untagged).1

  known_later : w.judge.course.disconnects.strays ≡ false → AllByRecursion (IsKnown Right s.given) coming
  known_later none = grind arith

  -- the connection of the CR
  pub record Place : Type 0 where
    pub c : Connection
    pub at : slice_get w.judge.connections p ≡ Some c
    pub asked : Asked x c
    pub none : units_at p f.tagged ≡ []
    pub no_more : units_at p later ≡ []
    pub no_ref : f.refs p ≡ None

  stand_place : (c : Connection) → slice_get w.judge.connections p ≡ Some c →
      Stand local f.shut s w.coming (units_at p f.tagged) (units_at p f.came) (w.begun && first_at p f.tagged) (f.refs p) c → Place
  stand_place c at h = grind (arith, request_is, units_at, asks_here, rest_none, no_list)

  place_by : (o : Option Connection) → slice_get w.judge.connections p ≡ o → Place
  place_by None e = no_list (request x) (units_at p later) (units_at p f.came) asks_here (f.beyond p e).1
  place_by (Some c) e = stand_place c e (f.stands p c e)

  pub place : Place
  place = place_by (slice_get w.judge.connections p) refl

  -- ---- what is put at this place

  module _ (v : Value) where
    abbrev tagged : List Placed
    tagged = f.tagged ++ (Some p, v) ∷ []

    values_are : values tagged ≡ values f.tagged ++ v ∷ []
    values_are = values_join f.tagged ((Some p, v) ∷ [])

    begun_same : (i : ℕ) → (w.begun && first_at i tagged) ≡ (w.begun && first_at i f.tagged)
    begun_same i = grind arith

    begun_not : {A : Type 0} → (w.begun && first_at p tagged) ≡ true → A
    begun_not e = absurd (first_some p f.tagged (and_second w.begun (first_at p f.tagged) (sym (begun_same p) ∙ e)) place.none)

    mine_here : units_at p tagged ≡ v ∷ []
    mine_here = grind (arith, at_join, place, at_first)

    mine_other : (i : ℕ) → (i ≡ p → ⊥) → units_at i tagged ≡ units_at i f.tagged
    mine_other i other = grind (arith, at_join, at_other, append-nil)

    -- ---- the other connections

    module _ (t : State) (rows : (m : ℕ) → m ≤ s.given → value_at m t.live ≡ value_at m s.live) where
      unlinked_still : (r : ℕ) → r ≤ s.given → IsUnlinked s r → IsUnlinked t r
      unlinked_still r up h lasts peer k e = h was peer k (sym (rows r up) ∙ e)

      row_same : (r peer : ℕ) (link : Option Standing) (come : List Value) → r ≤ s.given → Row s w.coming r peer link come →
          Row t coming r peer link come
      row_same r peer link come up (talks k there is among) =
          talks k (rows r up ∙ there) is (subst (Among come) (sym (those_same r)) among)
      row_same r peer link come up (closes un is among) = grind (arith, unlinked_still, those_same)
      row_same r peer link come up (over h) = differ (is_some s.ended) h (ap is_some was)

      stand_same : (i : ℕ) (c : Connection) (mine : List Value) (begun : Bool) → (i ≡ p → ⊥) →
          Stand local f.shut s w.coming mine (units_at i f.came) begun (f.refs i) c →
          Stand local f.shut t coming mine (units_at i later) begun (f.refs i) c
      stand_same i c mine begun other = stands_at local f.shut s t w.coming coming mine (units_at i f.came) (units_at i later) begun
          (f.refs i) c (λ y ask lasts. asks_other i other ∙ ask was) (λ none. asks_other i other ∙ none)
          (λ r peer link come e. row_same r peer link come (f.homes i r e).1) (λ r e. unlinked_still r (f.homes i r e).1)

      stand_else : (i : ℕ) (c : Connection) → (i ≡ p → ⊥) → slice_get w.judge.connections i ≡ Some c →
          Stand local f.shut t coming (units_at i tagged) (units_at i later) (w.begun && first_at i tagged) (f.refs i) c
      stand_else i c other at =
          subst (λ (b : Bool). Stand local f.shut t coming (units_at i tagged) (units_at i later) b (f.refs i) c) (sym (begun_same i))
          (subst (λ (l : List Value). Stand local f.shut t coming l (units_at i later) (w.begun && first_at i f.tagged) (f.refs i) c)
          (sym (mine_other i other))
          (stand_same i c (units_at i f.tagged) (w.begun && first_at i f.tagged) other (f.stands i c at)))

      gone_by : (i : ℕ) → slice_get w.judge.connections i ≡ None → (b : Bool) → (i == p) ≡ b →
          (units_at i tagged ≡ []) × (units_at i later ≡ []) × ((r : ℕ) → f.refs i ≡ Some r → IsUnlinked t r)
      gone_by i none true e = grind (arith, no_item, place, eqb-true)
      gone_by i none false e =
          let (a, b, d) = f.beyond i none in
          (mine_other i (unlike i p e) ∙ a, asks_other i (unlike i p e) ∙ b, λ r k. unlinked_still r (f.homes i r k).1 (d r k))

  -- ---- it is refused

  module _ (t : State) (reason : ℕ) (live : t.live ≡ s.live) (given : t.given ≡ s.given)
      (timely : w.judge.course.disconnects.strays ≡ false → t.ended ≡ None →
      Timely Right t coming w.judge.connections (values f.tagged)) where
    abbrev dr : Value
    dr = disconnect x.source 0 reason []

    stand_dr : (c : Connection) → Asked x c → Stand local f.shut t coming (units_at p (tagged dr)) (units_at p later)
        (w.begun && first_at p (tagged dr)) (f.refs p) c
    stand_dr c a = refuses x a reason (mine_here dr) place.no_more place.no_ref (λ e. begun_not dr e)

    dr_by : (i : ℕ) (c : Connection) (b : Bool) → (i == p) ≡ b → slice_get w.judge.connections i ≡ Some c →
        Stand local f.shut t coming (units_at i (tagged dr)) (units_at i later) (w.begun && first_at i (tagged dr)) (f.refs i) c
    dr_by i c true e at =
        let same = eqb-true i p e in
        let is : place.c ≡ c = grind (arith, item_is, place) in
        subst (λ (j : ℕ). Stand local f.shut t coming (units_at j (tagged dr)) (units_at j later) (w.begun && first_at j (tagged dr))
        (f.refs j) c)
        (sym same) (stand_dr c (subst (λ (y : Connection). Asked x y) is place.asked))
    dr_by i c false e at = stand_else dr t (grind arith) i c (unlike i p e) at

    stray_dr : (v : Value) (rest : List Placed) → IsStray f.shut s f.refs f.home w.judge.course.disconnects.strays v rest →
        IsStray f.shut t f.refs f.home w.judge.course.disconnects.strays v (rest ++ (Some p, dr) ∷ [])
    stray_dr v rest a = search (arith, at_join, at_other, no_number, place, append-nil)

    pub is_refused : Called local (record w { end = t; put = w.put ++ dr ∷ []; coming = coming })
    is_refused = record {
      tagged = tagged dr;
      put = ap (λ (l : List Value). l ++ dr ∷ []) f.put ∙ sym (values_are dr);
      came = later;
      come = come_is;
      refs = f.refs;
      home = f.home;
      shut = f.shut;
      stands = λ i c at. dr_by i c (i == p) refl at;
      beyond = λ i none. gone_by dr t (grind arith) i none (i == p) refl;
      homes = λ i r e. ((f.homes i r e).0, subst (λ (j : ℕ). r ≤ j) (sym given) (f.homes i r e).1);
      positive = f.positive;
      linked_at = λ lasts r peer k there. f.linked_at was r peer k (ap (λ (l : Rows Live). value_at r l) (sym live) ∙ there);
      shut_given = λ r e. subst (λ (j : ℕ). r ≤ j) (sym given) (f.shut_given r e);
      strays = search (arith, strays_keep, stray_dr);
      last = f.last;
      tops = f.tops;
      above = grind (arith, values, values_are, above_more);
      class = f.class;
      two = f.two;
      class_seen = f.class_seen;
      past_two = λ h. subst (λ (j : ℕ). 1 ≤ j) (sym given) (f.past_two h);
      seen_two = f.seen_two;
      some = λ h. subst (λ (l : List Value). l ≢ []) (sym (values_are dr)) (some_more (values f.tagged) (dr ∷ []) (f.some h));
      few = subst (λ (j : ℕ). AllByRecursion (IsFor j) coming) (sym given) few;
      untagged = untagged_later;
      timely = λ none lasts. subst (λ (l : List Value). Timely Right t coming w.judge.connections l) (sym (values_are dr))
          (timely_puts Right t coming w.judge.connections (values f.tagged) (dr ∷ []) (λ m y e. absurd (cc e), tt) (timely none lasts));
    }

  -- ---- it is accepted

  module _ (t : State) (size : Option ℕ) (selected : selected_by x local ≡ accept Two size) (given : t.given ≡ s.given + 1)
      (rows : (m : ℕ) → m ≤ s.given → value_at m t.live ≡ value_at m s.live)
      (new : value_at (s.given + 1) t.live ≡ Some (linked x.source (opened_link Two size local x.credit)))
      (others : (m peer : ℕ) (l : Standing) → value_at m t.live ≡ Some (linked peer l) → (m ≡ s.given + 1 → ⊥) → m ≤ s.given)
      (timely : w.judge.course.disconnects.strays ≡ false → t.ended ≡ None →
      Timely Right t coming w.judge.connections (values f.tagged)) where
    abbrev r : ℕ
    r = s.given + 1

    abbrev cc_is : Value
    cc_is = confirm x.source (acceptance Two size x local r)

    abbrev refs : ℕ → Option ℕ
    refs i = if i == p then Some r else f.refs i

    abbrev home : ℕ → ℕ
    home m = if m == r then p else f.home m

    refs_here : (i : ℕ) → (i == p) ≡ true → refs i ≡ Some r
    refs_here i e = ap (λ (b : Bool). if b then Some r else f.refs i) e

    refs_other : (i : ℕ) → (i == p) ≡ false → refs i ≡ f.refs i
    refs_other i e = ap (λ (b : Bool). if b then Some r else f.refs i) e

    home_other : (m : ℕ) → (m == r) ≡ false → home m ≡ f.home m
    home_other m e = ap (λ (b : Bool). if b then p else f.home m) e

    same_true : (i : ℕ) → (i == i) ≡ true
    same_true i = eq-eqb i i refl

    home_old : (m : ℕ) → m ≤ s.given → home m ≡ f.home m
    home_old m up = home_other m (grind arith)

    new_answer : (c : Connection) → Asked x c → Answering local f.shut t coming (units_at p (tagged cc_is))
        (w.begun && first_at p (tagged cc_is)) (Some r) c
    new_answer c a = record {
      x = x;
      size = size;
      r = r;
      index = refl;
      asked = a;
      selected = selected;
      link = Some (opened_link Two size local x.credit);
      more = [];
      come = [];
      mine_is = mine_here cc_is;
      acts = [];
      along = λ judge. refl;
      seen = λ e. begun_not cc_is e;
      row = talks (opened_link Two size local x.credit) new refl (dcs_alone s.given r coming (omega arith) few);
      shut_is = λ e. let up = f.shut_given r e in absurd (omega arith);
    }

    cc_by : (i : ℕ) (c : Connection) (b : Bool) → (i == p) ≡ b → slice_get w.judge.connections i ≡ Some c →
        Stand local f.shut t coming (units_at i (tagged cc_is)) (units_at i later) (w.begun && first_at i (tagged cc_is)) (refs i) c
    cc_by i c true e at =
        let same = eqb-true i p e in
        let is : place.c ≡ c = item_is place.c c (slice_get w.judge.connections p) place.at
        (ap (λ (j : ℕ). slice_get w.judge.connections j) (sym same) ∙ at) in
        subst (λ (o : Option ℕ). Stand local f.shut t coming (units_at i (tagged cc_is)) (units_at i later) (w.begun && first_at i
        (tagged cc_is)) o c)
        (sym (refs_here i e))
        (subst (λ (j : ℕ). Stand local f.shut t coming (units_at j (tagged cc_is)) (units_at j later) (w.begun && first_at j
        (tagged cc_is)) (Some r) c)
        (sym same) (answers (new_answer c (subst (λ (y : Connection). Asked x y) is place.asked)) place.no_more))
    cc_by i c false e at =
        subst (λ (o : Option ℕ). Stand local f.shut t coming (units_at i (tagged cc_is)) (units_at i later) (w.begun && first_at i
        (tagged cc_is)) o c)
        (sym (refs_other i e)) (stand_else cc_is t rows i c (unlike i p e) at)

    gone_cc : (i : ℕ) → slice_get w.judge.connections i ≡ None → (b : Bool) → (i == p) ≡ b →
        (units_at i (tagged cc_is) ≡ []) × (units_at i later ≡ []) × ((m : ℕ) → refs i ≡ Some m → IsUnlinked t m)
    gone_cc i none true e = grind (arith, no_item, place, eqb-true)
    gone_cc i none false e = search (arith, gone_by cc_is t rows i none false e, refs_other i e)

    homes_by : (i m : ℕ) (b : Bool) → (i == p) ≡ b → refs i ≡ Some m → (home m ≡ i) × (m ≤ t.given)
    homes_by i m true e h = grind (arith, number_is, refs_here, same_true, eqb-true)
    homes_by i m false e h =
        let (a, b) = f.homes i m (sym (refs_other i e) ∙ h) in
        (home_old m b ∙ a, subst (λ (j : ℕ). m ≤ j) (sym given) (omega arith))

    positive_by : (i m : ℕ) (b : Bool) → (i == p) ≡ b → refs i ≡ Some m → 1 ≤ m
    positive_by i m b e h = search (arith, number_is, refs_here, refs_other)

    -- what has a reference from before has another place
    old_place : (m : ℕ) → f.refs (f.home m) ≡ Some m → (f.home m == p) ≡ false
    old_place m h = grind (arith, place_not, no_number, place, eqb-true)

    linked_cc : (m peer : ℕ) (l : Standing) (b : Bool) → (m == r) ≡ b → value_at m t.live ≡ Some (linked peer l) → refs (home m) ≡ Some m
    linked_cc m peer l b e there = search (arith, refs_here, same_true, eqb-true, unlike, home_old, refs_other, old_place)

    pub is_accepted : Called local (record w { end = t; put = w.put ++ cc_is ∷ []; coming = coming })
    is_accepted = record {
      tagged = tagged cc_is;
      put = ap (λ (l : List Value). l ++ cc_is ∷ []) f.put ∙ sym (values_are cc_is);
      came = later;
      come = come_is;
      refs = λ i. refs i;
      home = λ m. home m;
      shut = f.shut;
      stands = λ i c at. cc_by i c (i == p) refl at;
      beyond = λ i none. gone_cc i none (i == p) refl;
      homes = λ i m h. homes_by i m (i == p) refl h;
      positive = λ i m h. positive_by i m (i == p) refl h;
      linked_at = λ lasts m peer l there. linked_cc m peer l (m == r) refl there;
      shut_given = λ m e. subst (λ (j : ℕ). m ≤ j) (sym given) (let up = f.shut_given m e in omega arith);
      strays = strays_keep f.shut f.shut s t f.refs (λ i. refs i) f.home (λ m. home m) w.judge.course.disconnects.strays f.tagged
          ((Some p, cc_is) ∷ [])
          (grind (arith, units_at, home_old, at_join, at_other, append-nil)) (tt, tt) f.strays;
      last = f.last;
      tops = f.tops;
      above = subst (λ (j : ℕ). AreAbove j f.last (values (tagged cc_is))) (sym given)
          (subst (AreAbove (s.given + 1) f.last) (sym (values_are cc_is))
          (above_cc s.given f.last (values f.tagged) x.source (acceptance Two size x local r) refl f.above));
      class = f.class;
      two = f.two;
      class_seen = f.class_seen;
      past_two = λ h. subst (λ (j : ℕ). 1 ≤ j) (sym given) (omega arith);
      seen_two = f.seen_two;
      some = λ h. subst (λ (l : List Value). l ≢ []) (sym (values_are cc_is)) (some_more (values f.tagged) (cc_is ∷ []) (f.some h));
      few = subst (λ (j : ℕ). AllByRecursion (IsFor j) coming) (sym given) (for_more s.given coming few);
      untagged = untagged_later;
      timely = λ none lasts. subst (λ (l : List Value). Timely Right t coming w.judge.connections l) (sym (values_are cc_is))
          (timely_gives Right s t coming w.judge.connections (values f.tagged) cc_is
          (λ m y e. subst (λ (z : Connect). IsLive t z.source × (s.given < z.source))
          (same_confirm x.source m (acceptance Two size x local r) y e) (ap is_some new, omega arith)) (known_later none)
          (timely none lasts));
    }
