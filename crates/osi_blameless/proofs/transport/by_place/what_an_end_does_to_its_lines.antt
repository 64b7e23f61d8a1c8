-- What a called end does to its lines: it takes a unit or makes a call on an open connection, takes a unit for a connection that is
-- not open, or ends. For the law on a whole called end.
use Rattle.osi_blameless.proofs.transport.Vocabulary.{[], acceptance, ActsAlong, AllByRecursion, ap, append-nil, arith, Bool, confirm}
use Rattle.osi_blameless.proofs.transport.Vocabulary.{Connect, Connection}
use Rattle.osi_blameless.proofs.transport.Vocabulary.{eqb-true, false, Follows, is_some, Line, link_now, linked, List, Live, Local, None}
use Rattle.osi_blameless.proofs.transport.Vocabulary.{opened_line, opened_link, Option, refl, Right, slice_get, Some, Standing, State}
use Rattle.osi_blameless.proofs.transport.Vocabulary.{subst, sym, true}
use Rattle.osi_blameless.proofs.transport.Vocabulary.{Two, Value, value_at, Whole, ℕ, ◌&&◌, ◌++◌, ◌==◌, ◌∙◌, ◌∷◌, ◌≡◌, ◌≢◌, ◌≤◌}
use Rattle.osi_blameless.proofs.transport.small_facts_that_many_lemmas_use.{differ, no_number, number_is}
use Rattle.osi_blameless.proofs.transport.by_place.each_connection_has_its_place.{stands_at, Among, AreAbove, AreStrays, Answering, Called}
use Rattle.osi_blameless.proofs.transport.by_place.each_connection_has_its_place.{IsFor, IsStray}
use Rattle.osi_blameless.proofs.transport.by_place.each_connection_has_its_place.{IsUnlinked, Row, Running, Stand, Untagged, answers}
use Rattle.osi_blameless.proofs.transport.by_place.each_connection_has_its_place.{closes, comes, line_of}
use Rattle.osi_blameless.proofs.transport.by_place.each_connection_has_its_place.{over, past, refuses, runs, talks}
use Rattle.osi_blameless.proofs.transport.connections.units_by_their_place.{Placed, all_at, all_elsewhere, all_here, at_join, first_at}
use Rattle.osi_blameless.proofs.transport.connections.units_by_their_place.{units_at, values, values_all}
use Rattle.osi_blameless.proofs.transport.connections.units_by_their_place.{values_join}
use Rattle.osi_blameless.proofs.transport.connections.what_is_live_at_an_end.{Timely, timely_puts}
use Rattle.osi_blameless.proofs.transport.connections.which_units_are_for_a_connection.{those}
use Rattle.osi_blameless.proofs.transport.class_0.a_dt_of_class_zero_passes.{unlike}
use Rattle.osi_blameless.proofs.transport.connections.a_line_since_its_connection_opened.{Tracks, tracks_on}
use Rattle.osi_blameless.proofs.transport.what_each_thing_keeps_all_of_them_keep.{along_join}
use Rattle.osi_blameless.proofs.transport.Vocabulary.{Acts}

-- ---- small facts

no_link : {A : Type 0} (o : Option Standing) (l : Standing) → o ≡ Some l → o ≡ None → A
no_link o l h e = absurd (cc)

link_none : {A : Type 0} (o : Option Live) (q : ℕ) (l : Standing) → link_now o ≡ None → o ≡ Some (linked q l) → A
link_none o q l h e = no_link (link_now o) l (ap link_now e) h

pub some_more : (xs ys : List Value) → xs ≢ [] → xs ++ ys ≢ []
some_more [] ys h = absurd (h refl)
some_more (x ∷ xs) ys h = λ e. cc

-- ---- units that are put after the others

pub above_more : (given n : ℕ) (vs units : List Value) → AllByRecursion (λ (v : Value). (m : ℕ) (x : Connect) → v ≡ confirm m x → ⊥) units →
    AreAbove given n vs → AreAbove given n (vs ++ units)
above_more given n [] [] none h = h
above_more given n [] (confirm destination x ∷ units) (one, more) h = absurd (one destination x refl)
above_more given n [] (_ ∷ units) (one, more) h = above_more given n [] units more h
above_more given n (confirm destination x ∷ vs) units none (above, h) = (above, above_more given x.source vs units none h)
above_more given n (_ ∷ vs) units none h = above_more given n vs units none h

-- the DCs for what is gone stay such, as more is put after them
pub strays_keep : (shut after : ℕ → Bool) (s t : State) (refs next : ℕ → Option ℕ) (home now : ℕ → ℕ) (strays : Bool)
    (ts more : List Placed) →
    ((v : Value) (later : List Placed) → IsStray shut s refs home strays v later → IsStray after t next now strays v (later ++ more)) →
    AreStrays after t next now strays more → AreStrays shut s refs home strays ts → AreStrays after t next now strays (ts ++ more)
strays_keep shut after s t refs next home now strays [] more k last h = last
strays_keep shut after s t refs next home now strays ((None, v) ∷ ts) more k last (one, rest) =
    (k v ts one, strays_keep shut after s t refs next home now strays ts more k last rest)
strays_keep shut after s t refs next home now strays ((Some p, v) ∷ ts) more k last (one, rest) =
    (tt, strays_keep shut after s t refs next home now strays ts more k last rest)

pub placed_not_stray : (shut : ℕ → Bool) (s : State) (refs : ℕ → Option ℕ) (home : ℕ → ℕ) (strays : Bool) (p : ℕ) (units : List Value) →
    AreStrays shut s refs home strays (all_at (Some p) units)
placed_not_stray shut s refs home strays p [] = tt
placed_not_stray shut s refs home strays p (v ∷ vs) = (tt, placed_not_stray shut s refs home strays p vs)

-- ---- the end has the connection open

-- what the line of the connection takes and puts
pub record Took (n q : ℕ) (s t : State) (coming units come : List Value) : Type 0 where
  pub taken : List Value
  pub later : List Value
  pub is : come ≡ taken ++ later
  pub among : Among later (those n coming)
  pub follows : Follows n q taken units s t

-- what the end has of it then
pub data Leaves (n q : ℕ) (t : State) : Type 0 where
  still : (l : Standing) → value_at n t.live ≡ Some (linked q l) → Leaves n q t
  shuts : link_now (value_at n t.live) ≡ None → Leaves n q t

module _ (local : Local) (w : Whole) (f : Called local w) (t : State) (units : List Value) (coming : List Value) (came : List Placed)
    (n q : ℕ) (l : Standing) (here : value_at n w.end.live ≡ Some (linked q l)) (was : w.end.ended ≡ None)
    (rows : (m : ℕ) → (m ≡ n → ⊥) → value_at m t.live ≡ value_at m w.end.live) (given : t.given ≡ w.end.given)
    (others : (m : ℕ) → (m ≡ n → ⊥) → those m coming ≡ those m w.coming) (asks : (p : ℕ) → units_at p came ≡ units_at p f.came)
    (took : (peer : ℕ) (k : Standing) → value_at n w.end.live ≡ Some (linked peer k) → (come : List Value) →
    Among come (those n w.coming) → Took n peer w.end t coming units come)
    (left : (peer : ℕ) (k : Standing) → value_at n w.end.live ≡ Some (linked peer k) → Leaves n peer t)
    (come_is : coming ≡ values came) (few : AllByRecursion (IsFor w.end.given) coming) (untagged : AllByRecursion Untagged came)
    (no_cc : AllByRecursion (λ (v : Value). (m : ℕ) (x : Connect) → v ≡ confirm m x → ⊥) units)
    (timely : w.judge.course.disconnects.strays ≡ false → t.ended ≡ None →
    Timely Right t coming w.judge.connections (values f.tagged)) where
  abbrev s : State
  s = w.end

  abbrev p : ℕ
  p = f.home n

  index : f.refs p ≡ Some n
  index = f.linked_at was n q l here

  abbrev tagged : List Placed
  tagged = f.tagged ++ all_at (Some p) units

  abbrev StandNow : ℕ → Connection → Type 0
  StandNow i c = Stand local f.shut t coming (units_at i tagged) (units_at i came) (w.begun && first_at i tagged) (f.refs i) c

  abbrev StandThen : List Value → Bool → ℕ → Connection → Type 0
  StandThen mine begun i c = Stand local f.shut t coming mine (units_at i came) begun (f.refs i) c

  mine_other : (i : ℕ) → (i ≡ p → ⊥) → units_at i tagged ≡ units_at i f.tagged
  mine_other i other = grind (arith, at_join, all_elsewhere, append-nil)

  mine_here : units_at p tagged ≡ units_at p f.tagged ++ units
  mine_here = at_join p f.tagged (all_at (Some p) units) ∙ ap (λ (vs : List Value). units_at p f.tagged ++ vs) (all_here p units)

  -- ---- another connection

  unlinked_still : (r : ℕ) → (r ≡ n → ⊥) → IsUnlinked s r → IsUnlinked t r
  unlinked_still r other h lasts peer k e = h was peer k (sym (rows r other) ∙ e)

  row_other : (r peer : ℕ) (link : Option Standing) (come : List Value) → (r ≡ n → ⊥) → Row s w.coming r peer link come →
      Row t coming r peer link come
  row_other r peer link come other (talks k there is among) =
      talks k (rows r other ∙ there) is (subst (Among come) (sym (others r other)) among)
  row_other r peer link come other (closes un is among) = grind (arith, unlinked_still)
  row_other r peer link come other (over h) = differ (is_some s.ended) h (ap is_some was)

  stand_other : (i : ℕ) (c : Connection) (mine : List Value) (begun : Bool) → (i ≡ p → ⊥) →
      Stand local f.shut s w.coming mine (units_at i f.came) begun (f.refs i) c → StandThen mine begun i c
  stand_other i c mine begun other = stands_at local f.shut s t w.coming coming mine (units_at i f.came) (units_at i came) begun
      (f.refs i) c (λ x ask lasts. asks i ∙ ask was) (λ none. asks i ∙ none)
      (λ r peer link come e. row_other r peer link come (grind arith)) (λ r e. unlinked_still r (grind arith))

  stand_else : (i : ℕ) (c : Connection) → (i ≡ p → ⊥) → slice_get w.judge.connections i ≡ Some c → StandNow i c
  stand_else i c other at =
      subst (λ (b : Bool). StandThen (units_at i tagged) b i c) (sym (grind arith))
      (subst (λ (vs : List Value). StandThen vs (w.begun && first_at i f.tagged) i c) (sym (mine_other i other))
      (stand_other i c (units_at i f.tagged) (w.begun && first_at i f.tagged) other (f.stands i c at)))

  -- ---- this connection

  new_row : (peer : ℕ) (come : List Value) → Among come (those n coming) → Leaves n peer t → Row t coming n peer
      (link_now (value_at n t.live)) come
  new_row peer come among (still k e) = talks k e (ap link_now e) among
  new_row peer come among (shuts e) = closes (λ lasts i k there. link_none (value_at n t.live) i k e there) e among

  -- what its line does
  record Goes (peer : ℕ) (link : Option Standing) (come : List Value) : Type 0 where
    k : Standing
    there : value_at n s.live ≡ Some (linked peer k)
    is : link ≡ Some k
    took_so : Took n peer s t coming units come

  goes : (peer : ℕ) (link : Option Standing) (come : List Value) → Row s w.coming n peer link come → Goes peer link come
  goes peer link come l = search (arith, differ)

  answers_on : (c : Connection) (h : Answering local f.shut s w.coming (units_at p f.tagged) (w.begun && first_at p f.tagged) (Some n) c) →
      (r : ℕ) → r ≡ n → h.r ≡ r →
      Answering local f.shut t coming (units_at p tagged) (w.begun && first_at p tagged) (Some n) c
  answers_on c h r same at_r =
      let r_is : h.r ≡ n = at_r ∙ same in
      let row = subst (λ (i : ℕ). Row s w.coming i h.x.source h.link h.come) r_is h.row in
      let g = goes h.x.source h.link h.come row in
      let o = g.took_so in
      record {
        x = h.x;
        size = h.size;
        r = n;
        index = refl;
        asked = h.asked;
        selected = h.selected;
        link = link_now (value_at n t.live);
        more = h.more ++ units;
        come = o.later;
        mine_is = mine_here ∙ ap (λ (vs : List Value). vs ++ units) h.mine_is
            ∙ ap (λ (i : ℕ). confirm h.x.source (acceptance Two h.size h.x local i) ∷ (h.more ++ units)) r_is;
        acts = h.acts ++ o.follows.acts;
        along = λ judge. along_join (Acts Right n h.x.source) h.acts o.follows.acts
            (opened_line (opened_link Two h.size local h.x.credit) judge)
            (line_of h.link h.more h.come judge) (line_of (link_now (value_at n t.live)) (h.more ++ units) o.later judge)
            (subst (λ (i : ℕ). ActsAlong Right i h.x.source (opened_line (opened_link Two h.size local h.x.credit) judge) h.acts
            (line_of h.link h.more h.come judge)) r_is (h.along judge))
            (o.follows.along Right (line_of h.link h.more h.come judge) o.later (g.is ∙ sym (ap link_now g.there)) o.is);
        seen = λ b. h.seen (sym (grind arith) ∙ b);
        row = new_row h.x.source o.later o.among (left h.x.source g.k g.there);
        shut_is = grind (arith, no_link);
      }

  runs_on : (c : Connection) (h : Running f.shut s w.coming (units_at p f.tagged) (w.begun && first_at p f.tagged) (Some n) c) → h.r ≡ n →
      Running f.shut t coming (units_at p tagged) (w.begun && first_at p tagged) (Some n) c
  runs_on c h r_is =
      let row = subst (λ (i : ℕ). Row s w.coming i h.peer h.line.end h.line.coming) r_is h.row in
      let g = goes h.peer h.line.end h.line.coming row in
      let o = g.took_so in
      let line : Line = record h.line { end = link_now (value_at n t.live); put = h.line.put ++ units; coming = o.later } in
      record {
        r = n;
        peer = h.peer;
        index = refl;
        line = line;
        judge = h.judge;
        put = ap (λ (vs : List Value). vs ++ units) h.put ∙ sym mine_here;
        begun_is = h.begun_is ∙ sym (grind arith);
        tracks = tracks_on Right n h.peer h.line line o.follows.acts (subst (λ (i : ℕ). Tracks Right i h.peer h.line) r_is h.tracks)
            (o.follows.along Right h.line o.later (g.is ∙ sym (ap link_now g.there)) o.is);
        there = h.there;
        right = h.right ∙ r_is;
        left = h.left;
        row = new_row h.peer o.later o.among (left h.peer g.k g.there);
        shut_is = grind (arith, no_link);
      }

  stand_mine : (c : Connection) →
      Stand local f.shut s w.coming (units_at p f.tagged) (units_at p f.came) (w.begun && first_at p f.tagged) (Some n) c →
      Stand local f.shut t coming (units_at p tagged) (units_at p came) (w.begun && first_at p tagged) (Some n) c
  stand_mine c (comes x a none ask e) = no_number (Some n) n e refl
  stand_mine c (refuses x a reason is none e seen) = no_number (Some n) n e refl
  stand_mine c (answers h none) = answers (answers_on c h n refl (number_is h.r n (sym h.index))) (asks p ∙ none)
  stand_mine c (runs h none) = runs (runs_on c h (number_is h.r n (sym h.index))) (asks p ∙ none)
  stand_mine c (past silent up none ask un off) = absurd (un n refl was q l here)

  stand_by : (i : ℕ) (c : Connection) (b : Bool) → (i == p) ≡ b → slice_get w.judge.connections i ≡ Some c → StandNow i c
  stand_by i c true e at =
      let same = eqb-true i p e in
      subst (λ (j : ℕ). StandNow j c) (sym same) (grind (arith, index, stand_mine, units_at, first_at))
  stand_by i c false e at = stand_else i c (unlike i p e) at

  -- ---- no connection

  gone_by : (i : ℕ) → slice_get w.judge.connections i ≡ None → (b : Bool) → (i == p) ≡ b →
      (units_at i tagged ≡ []) × (units_at i came ≡ []) × ((r : ℕ) → f.refs i ≡ Some r → IsUnlinked t r)
  gone_by i none true e = search (arith, eqb-true, index)
  gone_by i none false e = grind (arith, mine_other, unlike, unlinked_still)

  linked_by : (r peer : ℕ) (k : Standing) (b : Bool) → (r == n) ≡ b → value_at r t.live ≡ Some (linked peer k) → f.refs (f.home r) ≡ Some r
  linked_by r peer k b e there = grind (arith, eqb-true, index, unlike)

  -- the end puts nothing for a connection that it has closed
  shut_n : (c : Connection) →
      Stand local f.shut s w.coming (units_at p f.tagged) (units_at p f.came) (w.begun && first_at p f.tagged) (Some n) c →
      f.shut n ≡ true → ⊥
  shut_n c l h = grind (arith, no_number, number_is, index, goes, no_link)

  shut_at : (o : Option Connection) → slice_get w.judge.connections p ≡ o → f.shut n ≡ true → ⊥
  shut_at None e h = (f.beyond p e).2 n index was q l here
  shut_at (Some c) e h = shut_n c (subst (λ (o : Option ℕ). Stand local f.shut s w.coming (units_at p f.tagged) (units_at p f.came)
      (w.begun && first_at p f.tagged) o c) index (f.stands p c e)) h

  stray_home : (m : ℕ) → f.shut m ≡ true → f.refs (f.home m) ≡ Some m → f.home m ≡ p → ⊥
  stray_home m h e same = grind (arith, number_is, index, shut_at)

  stray_still : (v : Value) (later : List Placed) → IsStray f.shut s f.refs f.home w.judge.course.disconnects.strays v later →
      IsStray f.shut t f.refs f.home w.judge.course.disconnects.strays v (later ++ all_at (Some p) units)
  stray_still v later a = grind (arith, at_join, all_at, units_at, all_elsewhere, stray_home, append-nil)

  pub line_steps : Called local (record w { end = t; put = w.put ++ units; coming = coming })
  line_steps = record {
    tagged = tagged;
    put = ap (λ (vs : List Value). vs ++ units) f.put ∙ sym (values_join f.tagged (all_at (Some p) units)
        ∙ ap (λ (vs : List Value). values f.tagged ++ vs) (values_all (Some p) units));
    came = came;
    come = come_is;
    refs = f.refs;
    home = f.home;
    shut = f.shut;
    stands = λ i c at. stand_by i c (i == p) refl at;
    beyond = λ i none. gone_by i none (i == p) refl;
    homes = λ i r e. ((f.homes i r e).0, subst (λ (j : ℕ). r ≤ j) (sym given) (f.homes i r e).1);
    positive = f.positive;
    linked_at = λ lasts r peer k there. linked_by r peer k (r == n) refl there;
    shut_given = λ r e. subst (λ (j : ℕ). r ≤ j) (sym given) (f.shut_given r e);
    strays = strays_keep f.shut f.shut s t f.refs f.refs f.home f.home w.judge.course.disconnects.strays f.tagged (all_at (Some p) units)
        stray_still
        (placed_not_stray f.shut t f.refs f.home w.judge.course.disconnects.strays p units) f.strays;
    last = f.last;
    tops = f.tops;
    above = subst (λ (j : ℕ). AreAbove j f.last (values tagged)) (sym given)
        (subst (AreAbove s.given f.last) (sym (values_join f.tagged (all_at (Some p) units)
        ∙ ap (λ (vs : List Value). values f.tagged ++ vs) (values_all (Some p) units)))
        (above_more s.given f.last (values f.tagged) units no_cc f.above));
    class = f.class;
    two = f.two;
    class_seen = f.class_seen;
    past_two = λ h. subst (λ (j : ℕ). 1 ≤ j) (sym given) (f.past_two h);
    seen_two = f.seen_two;
    some = λ h. subst (λ (vs : List Value). vs ≢ []) (sym (values_join f.tagged (all_at (Some p) units)))
        (some_more (values f.tagged) (values (all_at (Some p) units)) (f.some h));
    few = subst (λ (j : ℕ). AllByRecursion (IsFor j) coming) (sym given) few;
    untagged = untagged;
    timely = λ none lasts. subst (λ (l : List Value). Timely Right t coming w.judge.connections l)
        (sym (values_join f.tagged (all_at (Some p) units) ∙ ap (λ (vs : List Value). values f.tagged ++ vs) (values_all (Some p) units)))
        (timely_puts Right t coming w.judge.connections (values f.tagged) units no_cc (timely none lasts));
  }
