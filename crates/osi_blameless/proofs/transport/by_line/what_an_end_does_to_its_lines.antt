-- What the line of each connection of a whole calling end is after the end has taken a unit that names a connection.
-- For the law on a whole end.
use Rattle.osi_blameless.proofs.transport.Vocabulary.{[], AllByRecursion, ap, append-nil, arith, asked, Bool, confirm, Connect, Connection}
use Rattle.osi_blameless.proofs.transport.Vocabulary.{destination_of}
use Rattle.osi_blameless.proofs.transport.Vocabulary.{disconnected, eqb-true, false, Follows, Half, inl, inr, is_some, Left, Line, link_now}
use Rattle.osi_blameless.proofs.transport.Vocabulary.{linked, List}
use Rattle.osi_blameless.proofs.transport.Vocabulary.{Local, None, refl, request, Right, slice_get, Some, Standing, State, subst, sym}
use Rattle.osi_blameless.proofs.transport.Vocabulary.{Traffic, true, Two}
use Rattle.osi_blameless.proofs.transport.Vocabulary.{Value, value_at, Whole, ℕ, ◌&&◌, ◌++◌, ◌==◌, ◌∙◌, ◌∷◌, ◌≡◌, ◌≢◌, ◌≤◌}
use Rattle.osi_blameless.proofs.transport.small_facts_that_many_lemmas_use.{all_join, first_is, rest_is, differ, no_list}
use Rattle.osi_blameless.proofs.transport.by_line.a_unit_of_the_end_passes.{all_two}
use Rattle.osi_blameless.proofs.transport.connections.no_two_open_connections_have_one_peer.{one_peer}
use Rattle.osi_blameless.proofs.transport.by_line.each_connection_has_its_line.{IsNoCc, followed_at, AreSettled, Followed, Following}
use Rattle.osi_blameless.proofs.transport.by_line.each_connection_has_its_line.{IsAnswer, IsAsking, IsOwned}
use Rattle.osi_blameless.proofs.transport.by_line.each_connection_has_its_line.{AreGiven, IsSettled, Row, Tracked, Waiting, all_so}
use Rattle.osi_blameless.proofs.transport.by_line.each_connection_has_its_line.{asks, closes, over, is_tracked}
use Rattle.osi_blameless.proofs.transport.by_line.each_connection_has_its_line.{of}
use Rattle.osi_blameless.proofs.transport.by_line.each_connection_has_its_line.{stray, talks}
use Rattle.osi_blameless.proofs.transport.names.names_stay_apart_though_one_is_lost.{AreNamedApart}
use Rattle.osi_blameless.proofs.transport.connections.what_the_other_side_closes.{IsSane}
use Rattle.osi_blameless.proofs.transport.connections.which_units_are_for_a_connection.{picked_each, AllOurs, IsDc, IsOf, dc_not_ours}
use Rattle.osi_blameless.proofs.transport.connections.which_units_are_for_a_connection.{picked_rest, is_dc, is_ours}
use Rattle.osi_blameless.proofs.transport.connections.which_units_are_for_a_connection.{leads, named_not, named_so, names, none_ours}
use Rattle.osi_blameless.proofs.transport.connections.which_units_are_for_a_connection.{picked_other, ours, picked_join}
use Rattle.osi_blameless.proofs.transport.connections.which_units_are_for_a_connection.{those}
use Rattle.osi_blameless.proofs.transport.class_0.a_dt_of_class_zero_passes.{unlike}
use Rattle.osi_blameless.proofs.transport.connections.a_line_since_its_connection_opened.{tracks_keep, tracks_on}
use Rattle.osi_blameless.proofs.transport.by_line.what_a_unit_leaves_at_the_end.{Linked, ends, spare_none, still}
use Rattle.osi_blameless.proofs.transport.connections.which_units_are_for_a_connection.{all_ours, last_ours, picked_first, those_join}

-- ---- lists

all_under : (A : Type 0) (P : Value → Type 0) (vs : List Value) → (A → AllByRecursion P vs) → AllByRecursion (λ (v : Value). A → P v) vs
all_under A P [] h = tt
all_under A P (v ∷ vs) h = (λ a. (h a).0, all_under A P vs (λ a. (h a).1))

pub leads_more : (b : Bool) (f : Value → Bool) (put more : List Value) → (b ≡ true → put ≢ []) →
    (b && leads f put) ≡ (b && leads f (put ++ more))
leads_more b f put more h = grind arith

pub some_more : (put more : List Value) → put ≢ [] → put ++ more ≢ []
some_more [] more h = absurd (h refl)
some_more (v ∷ vs) more h = no_list v (vs ++ more)

-- ---- whose units they are

-- what the end puts is of the open connection with this reference
pub record Owner (s : Traffic) (n : ℕ) (units : List Value) : Type 0 where
  pub p : ℕ
  pub c : Connection
  pub at : slice_get s.connections p ≡ Some c
  pub tracked : is_tracked c ≡ true
  pub left : c.left.reference ≡ n
  pub own : AllOurs n c.right.reference units

-- or a DC for a DR that closed nothing
pub record Answers (s : Traffic) (n : ℕ) (units : List Value) : Type 0 where
  pub m : ℕ
  pub is : units ≡ disconnected m n ∷ []
  pub strays : s.course.disconnects.strays ≡ true

-- the reference was given, and its CR is answered
pub record IsAnswered (end : State) (n : ℕ) : Type 0 where
  pub up : n ≤ end.given
  pub row : value_at n end.live ≡ Some asked → ⊥

pub data Puts (s : Traffic) (end : State) (n : ℕ) (units : List Value) : Type 0 where
  nothing : units ≡ [] → Puts s end n units
  of_line : Owner s n units → IsAnswered end n → Puts s end n units
  of_none : Answers s n units → IsAnswered end n → Puts s end n units

ours_owned : (s : Traffic) (n p : ℕ) (c : Connection) (units : List Value) → slice_get s.connections p ≡ Some c → is_tracked c ≡ true →
    c.left.reference ≡ n → AllOurs n c.right.reference units → AllByRecursion (IsOwned s) units
ours_owned s n p c [] at tracked left h = tt
ours_owned s n p c (v ∷ vs) at tracked left (one, more) = (
  of p c at tracked (subst (λ (i : ℕ). IsOf i c.right.reference v) (sym left) one),
  ours_owned s n p c vs at tracked left more,
)

pub units_owned : (s : Traffic) (end : State) (n : ℕ) (units : List Value) → Puts s end n units → AllByRecursion (IsOwned s) units
units_owned s end n units (nothing e) = subst (AllByRecursion (IsOwned s)) (sym e) tt
units_owned s end n units (of_line o k) = ours_owned s n o.p o.c units o.at o.tracked o.left o.own
units_owned s end n units (of_none a k) = subst (AllByRecursion (IsOwned s)) (sym a.is) (stray a.m n refl a.strays, tt)

no_request : (n m : ℕ) (units : List Value) (P : Connect → Type 0) → AllOurs n m units →
    AllByRecursion (λ (v : Value). (x : Connect) → v ≡ request x → P x) units
no_request n m [] P h = tt
no_request n m (v ∷ vs) P (one, more) = (λ x e. absurd (cc (sym (ap destination_of e) ∙ one.named)), no_request n m vs P more)

pub units_ask : (s : Traffic) (end : State) (n : ℕ) (units : List Value) (P : Connect → Type 0) → Puts s end n units →
    AllByRecursion (λ (v : Value). (x : Connect) → v ≡ request x → P x) units
units_ask s end n units P h = grind (arith, no_request)

-- ---- the references of their DCs are settled

ours_settled : (cs : List Connection) (all : List Value) (given n peer : ℕ) (units : List Value) → IsSettled cs all given n →
    AllOurs n peer units → AllByRecursion (AreSettled cs all given) units
ours_settled cs all given n peer [] k h = tt
ours_settled cs all given n peer (v ∷ vs) k (one, more) = grind (arith, ours_settled cs all given n peer vs k more)

pub units_settled : (s : Traffic) (end : State) (all : List Value) (given n : ℕ) (units : List Value) → Puts s end n units →
    (IsAnswered end n → IsSettled s.connections all given n) → AllByRecursion (AreSettled s.connections all given) units
units_settled s end all given n units h k = grind (arith, ours_settled)

-- of those that were put before
pub settled_more : (cs : List Connection) (put units : List Value) (given later : ℕ) →
    ((r : ℕ) → AllByRecursion (λ (v : Value). (x : Connect) → v ≡ request x → x.source ≡ r → ⊥) units) → given ≤ later → (v : Value) →
    AreSettled cs put given v → AreSettled cs (put ++ units) later v
settled_more cs put units given later none up v h m source e =
    let k = h m source e in
    grind (arith, asks, all_join)

-- a unit that is no DC is not among the DCs that came first
after_early : (early : List Value) (u v : Value) (us vs : List Value) → AllByRecursion IsDc early → is_dc u ≡ false →
    u ∷ us ≡ early ++ v ∷ vs → us ≡ vs
after_early [] u v us vs dcs none e = rest_is u v us vs e
after_early (d ∷ ds) u v us vs (one, more) none e = differ (is_dc d) one (sym (ap is_dc (first_is u d us (ds ++ v ∷ vs) e)) ∙ none)

pub all_second : (P : Value → Type 0) (xs ys : List Value) → AllByRecursion P (xs ++ ys) → AllByRecursion P ys
all_second P [] ys h = h
all_second P (x ∷ xs) ys h = all_second P xs ys h.1

-- ---- what the line of an open connection does: the end takes these units for it, or makes a call

module _ (local : Local) (w : Whole) (f : Followed local w) (t : State) (units taken later : List Value) (n peer : ℕ) (link : Standing)
    (was : w.end.ended ≡ None) (here : value_at n w.end.live ≡ Some (linked peer link))
    (come : (r : ℕ) → r ≡ n → those r w.coming ≡ taken ++ those r later)
    (follows : (r q : ℕ) (l : Standing) → r ≡ n → value_at r w.end.live ≡ Some (linked q l) → Follows r q taken units w.end t)
    (linked_then : (q : ℕ) (l : Standing) → value_at n w.end.live ≡ Some (linked q l) → Linked n q t) where
  abbrev Follows_on : Connection → Type 0
  Follows_on c = Following local (w.put ++ units) w.begun w.judge.course.disconnects.strays t later c

  record Grown (c : Connection) : Type 0 where
    grown : Follows_on c
    own : AllOurs n c.right.reference units

  new_row : (r q : ℕ) (line : Line) → r ≡ n → line.end ≡ link_now (value_at r t.live) → those r later ≡ line.coming → Linked n q t →
      Row local t later r q line
  new_row r q line same is coming (still l there) =
      let row = ap (λ (i : ℕ). value_at i t.live) same ∙ there in talks l row (is ∙ ap link_now row) coming
  new_row r q line same is coming (ends o there i (inl h)) =
      let row = ap (λ (i : ℕ). value_at i t.live) same ∙ there in closes o row i (inl h) (is ∙ ap link_now (row ∙ h)) coming
  new_row r q line same is coming (ends o there i (inr h)) =
      let row = ap (λ (i : ℕ). value_at i t.live) same ∙ there in closes o row i (inr h) (is ∙ ap link_now (row ∙ h)) coming

  grows : (c : Connection) (g : Following local w.put w.begun w.judge.course.disconnects.strays w.end w.coming c) → g.r ≡ n →
      (l : Standing) → value_at g.r w.end.live ≡ Some (linked g.peer l) → g.line.end ≡ Some l → those g.r w.coming ≡ g.line.coming →
      Grown c
  grows c g same l r is come_all =
      let acts = follows g.r g.peer l same r in
      let coming = sym come_all ∙ come g.r same in
      let line : Line = record g.line { end = link_now (value_at g.r t.live); put = g.line.put ++ units; coming = those g.r later } in
      let tracks = tracks_on Left g.r g.peer g.line line acts.acts g.tracks
      (acts.along Left g.line (those g.r later) (is ∙ sym (ap link_now r)) coming) in
      let own = last_ours g.r g.peer g.line.put units (tracks_keep Left g.r g.peer line tracks).ours in
      let none = spare_none g.spare g.line.end l g.gone is in
      record {
        grown = record {
          r = g.r;
          peer = g.peer;
          line = line;
          left = g.left;
          right = g.right;
          tracks = tracks;
          judge = g.judge;
          spare = [];
          put_is = picked_join (is_ours g.r g.peer) w.put units
              ∙ ap (λ (v : List Value). v ++ ours g.r g.peer units) (g.put_is ∙ ap (λ (v : List Value). g.line.put ++ v) none
              ∙ append-nil g.line.put)
              ∙ ap (λ (v : List Value). g.line.put ++ v) (all_ours g.r g.peer units own) ∙ sym (append-nil (g.line.put ++ units));
          spares = tt;
          gone = λ h. absurd (h refl);
          begun_is = λ first. g.begun_is (λ h. none) ∙ leads_more w.begun (is_ours g.r g.peer) w.put units f.some;
          row = new_row g.r g.peer line same refl refl (linked_then g.peer l (ap (λ (i : ℕ). value_at i w.end.live) (sym same) ∙ r));
          calm = λ j. all_second IsNoCc taken (those g.r later) (subst (AllByRecursion IsNoCc) coming (g.calm j));
        };
        own = subst (λ (i : ℕ). AllOurs n i units) (sym g.right) (subst (λ (i : ℕ). AllOurs i g.peer units) same own);
      }

  grown_by : (c : Connection) (g : Following local w.put w.begun w.judge.course.disconnects.strays w.end w.coming c) → g.r ≡ n →
      Row local w.end w.coming g.r g.peer g.line → Grown c
  grown_by c g same (over h) = differ (is_some w.end.ended) h (ap is_some was)
  grown_by c g same (talks l r is come_all) = grows c g same l r is come_all
  grown_by c g same (asks r x source two early dcs first is) = grind arith
  grown_by c g same (closes o r i (inl h) gone come_all) = grind arith
  grown_by c g same (closes o r i (inr h) gone come_all) = grind arith

  pub line_grows : (c : Connection) (g : Following local w.put w.begun w.judge.course.disconnects.strays w.end w.coming c) → g.r ≡ n →
      Follows_on c
  line_grows c g same = (grown_by c g same g.row).grown

  pub open_owner : Owner w.judge n units
  open_owner =
      let ((p, c, at, tracked, left), two) = f.linked was n peer link here in
      let g = f.lines p c at tracked in
      record { p = p; c = c; at = at; tracked = tracked; left = left; own = (grown_by c g (sym g.left ∙ left) g.row).own }

  -- it awaits no CC then
  pub not_asked_then : value_at n t.live ≡ Some asked → ⊥
  not_asked_then = by (linked_then peer link here)
    where
      by : Linked n peer t → value_at n t.live ≡ Some asked → ⊥
      by (still l there) row = cc (sym there ∙ row)
      by (ends o there i (inl h)) row = cc (sym h ∙ sym there ∙ row)
      by (ends o there i (inr h)) row = cc (sym h ∙ sym there ∙ row)

-- ---- all connections, after a unit or a call

module _ (local : Local) (w : Whole) (f : Followed local w) (sane : IsSane w.judge) (peers : AreNamedApart Right w.judge.connections)
    (t : State) (units taken later : List Value) (n : ℕ) (come : w.coming ≡ taken ++ later)
    (later_other : (r : ℕ) → (r ≡ n → ⊥) → those r w.coming ≡ those r later)
    (rows : (m : ℕ) → (m ≡ n → ⊥) → value_at m t.live ≡ value_at m w.end.live) (class : w.end.class ≡ Some Two → t.class ≡ Some Two)
    (given : w.end.given ≤ t.given) (was : w.end.ended ≡ None)
    (asked_waits : AllByRecursion IsDc (those n w.coming) → value_at n w.end.live ≡ Some asked → value_at n t.live ≡ Some asked)
    (asked_was : value_at n t.live ≡ Some asked → value_at n w.end.live ≡ Some asked)
    (asked_still : AllByRecursion (λ (v : Value). (m : ℕ) (x : Connect) → v ≡ confirm m x → m ≡ n → w.judge.course.loose ≡ false →
    Tracked w.judge.connections n × (value_at n w.end.live ≡ Some asked) → value_at n t.live ≡ Some asked) later)
    (mine : (p : ℕ) (c : Connection) → slice_get w.judge.connections p ≡ Some c → is_tracked c ≡ true →
    (g : Following local w.put w.begun w.judge.course.disconnects.strays w.end w.coming c) → g.r ≡ n →
    Following local (w.put ++ units) w.begun w.judge.course.disconnects.strays t later c)
    (mine_linked : (peer : ℕ) (link : Standing) → value_at n t.live ≡ Some (linked peer link) →
    Tracked w.judge.connections n × (t.class ≡ Some Two))
    (owner : Puts w.judge w.end n units) where
  abbrev cs : List Connection
  cs = w.judge.connections

  those_later : (P : Value → Type 0) (r : ℕ) → AllByRecursion P (those r w.coming) → AllByRecursion P (those r later)
  those_later P r h = all_second P (those r taken) (those r later)
      (subst (AllByRecursion P) (ap (λ (l : List Value). those r l) come ∙ those_join r taken later) h)

  row_later : (r peer : ℕ) (line : Line) → (r ≡ n → ⊥) → Row local w.end w.coming r peer line → Row local t later r peer line
  row_later r peer line other (asks there x source two early dcs first is) =
      asks (rows r other ∙ there) x source two early dcs (sym (later_other r other) ∙ first) is
  row_later r peer line other (talks link there is all) = talks link (rows r other ∙ there) is (sym (later_other r other) ∙ all)
  row_later r peer line other (over h) = differ (is_some w.end.ended) h (ap is_some was)
  row_later r peer line other (closes o there q k is all) = closes o (rows r other ∙ there) q k is (sym (later_other r other) ∙ all)

  put_by : (p : ℕ) (c : Connection) → slice_get cs p ≡ Some c → is_tracked c ≡ true → (r peer : ℕ) → c.left.reference ≡ r →
      c.right.reference ≡ peer → (r ≡ n → ⊥) → Puts w.judge w.end n units → ours r peer (w.put ++ units) ≡ ours r peer w.put
  put_by p c at tracked r peer left right other h =
      search (arith, ours, append-nil, picked_join, is_ours, none_ours, one_peer, picked_other, dc_not_ours)

  line_other : (p : ℕ) (c : Connection) → slice_get cs p ≡ Some c → is_tracked c ≡ true →
      (g : Following local w.put w.begun w.judge.course.disconnects.strays w.end w.coming c) → (g.r ≡ n → ⊥) →
      Following local (w.put ++ units) w.begun w.judge.course.disconnects.strays t later c
  line_other p c at tracked g other = followed_at g (put_by p c at tracked g.r g.peer g.left g.right other owner) g.spares
      (leads_more w.begun (is_ours g.r g.peer) w.put units f.some) (row_later g.r g.peer g.line other g.row)

  line_by : (p : ℕ) (c : Connection) → slice_get cs p ≡ Some c → is_tracked c ≡ true →
      (g : Following local w.put w.begun w.judge.course.disconnects.strays w.end w.coming c) → (b : Bool) → (g.r == n) ≡ b →
      Following local (w.put ++ units) w.begun w.judge.course.disconnects.strays t later c
  line_by p c at tracked g true e = mine p c at tracked g (eqb-true g.r n e)
  line_by p c at tracked g false e = line_other p c at tracked g (unlike g.r n e)

  of_later : (P : Value → Type 0) → AllByRecursion P w.coming → AllByRecursion P later
  of_later P h = all_second P taken later (subst (AllByRecursion P) come h)

  asked_by : (r : ℕ) (b : Bool) → (r == n) ≡ b → AllByRecursion IsDc (those r w.coming) → value_at r w.end.live ≡ Some asked →
      value_at r t.live ≡ Some asked
  asked_by r true e early row =
      let same = eqb-true r n e in
      ap (λ (i : ℕ). value_at i t.live) same
      ∙ asked_waits (subst (λ (i : ℕ). AllByRecursion IsDc (those i w.coming)) same early)
      (ap (λ (i : ℕ). value_at i w.end.live) (sym same) ∙ row)
  asked_by r false e early row = rows r (unlike r n e) ∙ row

  waits_new : (c : Connection) → Waiting local w.end w.coming c → Waiting local t later c
  waits_new c k = record {
    r = k.r;
    left = k.left;
    right = k.right;
    seen = k.seen;
    early = those_later IsDc k.r k.early;
    row = λ lasts. asked_by k.r (k.r == n) refl k.early (k.row was);
  }

  asking_new : (x : Connect) → IsAsking local w.end w.coming x → IsAsking local t later x
  asking_new x k = record {
    left = k.left;
    early = those_later IsDc x.source k.early;
    row = λ lasts. asked_by x.source (x.source == n) refl k.early (k.row was);
  }

  linked_by : (m peer : ℕ) (link : Standing) (b : Bool) → (m == n) ≡ b → value_at m t.live ≡ Some (linked peer link) →
      Tracked cs m × (t.class ≡ Some Two)
  linked_by m peer link b e h = search (arith, eqb-true, unlike)

  abbrev Keeps_asked : Value → Type 0
  Keeps_asked v = (m : ℕ) (x : Connect) → v ≡ confirm m x → m ≡ n → w.judge.course.loose ≡ false →
      Tracked cs n × (value_at n w.end.live ≡ Some asked) → value_at n t.live ≡ Some asked

  answer_firm : (v : Value) (m : ℕ) (x : Connect) → w.judge.course.loose ≡ false → v ≡ confirm m x →
      Tracked cs m × (value_at m w.end.live ≡ Some asked) → Keeps_asked v → (b : Bool) → (m == n) ≡ b → value_at m t.live ≡ Some asked
  answer_firm v m x firm e h k true same =
      let is = eqb-true m n same in
      ap (λ (i : ℕ). value_at i t.live) is
      ∙ k m x e is firm (subst (λ (i : ℕ). Tracked cs i × (value_at i w.end.live ≡ Some asked)) is h)
  answer_firm v m x firm e h k false same = rows m (unlike m n same) ∙ h.1

  answer_now : (v : Value) → IsAnswer w.judge.course.loose cs w.end v → Keeps_asked v → IsAnswer w.judge.course.loose cs t v
  answer_now v h k m x e lasts (inl row) = ((h m x e was (inl (grind (arith, eqb-true, unlike)))).0, row)
  answer_now v h k m x e lasts (inr firm) =
      let before = h m x e was (inr firm) in (before.0, answer_firm v m x firm e before k (m == n) refl)

  -- no CR waits for the reference of what the end puts, and none is to pass
  settled_here : IsAnswered w.end n → IsSettled cs (w.put ++ units) t.given n
  settled_here a =
      let up = a.up in
      record {
        up = omega arith;
        waits = λ i c at waits same.
            let k = f.waiting i c at waits in
            a.row (ap (λ (j : ℕ). value_at j w.end.live) (sym same ∙ ap (λ (h : Half). h.reference) k.left) ∙ k.row was);
        asks = all_join (λ (v : Value). (x : Connect) → v ≡ request x → x.source ≡ n → ⊥) w.put units
            (grind (arith, all_so))
            (units_ask w.judge w.end n units (λ x. x.source ≡ n → ⊥) owner);
      }

  pub taken_so : Followed local (record w { end = t; put = w.put ++ units; coming = later })
  taken_so = record {
    lines = λ i c at tracked.
        let g = f.lines i c at tracked in line_by i c at tracked g (g.r == n) refl;
    waiting = λ i c at waiting. waits_new c (f.waiting i c at waiting);
    owned = all_join (λ v. IsOwned w.judge v) w.put units f.owned (units_owned w.judge w.end n units owner);
    linked = λ lasts m peer link h. linked_by m peer link (m == n) refl h;
    answers = all_two (λ v. IsAnswer w.judge.course.loose cs w.end v) Keeps_asked (λ v. IsAnswer w.judge.course.loose cs t v) later
        answer_now (of_later (λ v. IsAnswer w.judge.course.loose cs w.end v) f.answers) asked_still;
    requests = all_join (λ v. (x : Connect) → v ≡ request x → IsAsking local t later x) w.put units
        (search (arith, all_so, asking_new))
        (units_ask w.judge w.end n units (λ x. IsAsking local t later x) owner);
    two = f.two;
    silent = f.silent;
    zero = f.zero;
    some = λ h. some_more w.put units (f.some h);
    few = all_so (AreGiven w.end.given) (AreGiven t.given) later (λ v h none m e. let up = h none m e in omega arith)
        (of_later (AreGiven w.end.given) f.few);
    seen = f.seen;
    settled = all_join (AreSettled cs (w.put ++ units) t.given) w.put units
        (all_so (AreSettled cs w.put w.end.given) (AreSettled cs (w.put ++ units) t.given) w.put
        (settled_more cs w.put units w.end.given t.given (λ r. units_ask w.judge w.end n units (λ x. x.source ≡ r → ⊥) owner) given)
        f.settled)
        (units_settled w.judge w.end (w.put ++ units) t.given n units owner settled_here);
    lost = f.lost;
    shut = λ lasts i c at closed row. f.shut was i c at closed (grind (arith, eqb-true, unlike));
  }

-- ---- after a unit

module _ (local : Local) (w : Whole) (f : Followed local w) (sane : IsSane w.judge) (peers : AreNamedApart Right w.judge.connections)
    (t : State) (units : List Value) (u : Value) (later : List Value) (n : ℕ) (come : w.coming ≡ u ∷ later)
    (dest : destination_of u ≡ Some n) (was : w.end.ended ≡ None)
    (asked_dc : is_dc u ≡ true → value_at n w.end.live ≡ Some asked → value_at n t.live ≡ Some asked) where
  pub first_n : (r : ℕ) → r ≡ n → those r w.coming ≡ u ∷ those r later
  first_n r same = grind (arith, picked_first, named_so)

  pub other_n : (r : ℕ) → (r ≡ n → ⊥) → those r w.coming ≡ those r later
  other_n r other = grind (arith, picked_rest, named_not)

  pub dc_waits : AllByRecursion IsDc (those n w.coming) → value_at n w.end.live ≡ Some asked → value_at n t.live ≡ Some asked
  dc_waits early row = asked_dc (subst (AllByRecursion IsDc) (first_n n refl) early).0 row

  -- after the CC that the end awaits comes no other, as long as no connection has lost its judgement
  abbrev Answered : Type 0
  Answered = (w.judge.course.loose ≡ false) × (Tracked w.judge.connections n × (value_at n w.end.live ≡ Some asked)) × (is_dc u ≡ false)

  calm_row : (r peer : ℕ) (line : Line) → r ≡ n → value_at r w.end.live ≡ Some asked → is_dc u ≡ false →
      AllByRecursion IsNoCc line.coming → Row local w.end w.coming r peer line → AllByRecursion IsNoCc (those n later)
  calm_row r peer line same there none calm (asks here x source two early dcs first link) =
      subst (λ (i : ℕ). AllByRecursion IsNoCc (those i later)) same
      (subst (AllByRecursion IsNoCc)
      (sym (after_early early u (confirm r x) (those r later) line.coming dcs none (sym (first_n r same) ∙ first))) calm)
  calm_row r peer line same there none calm (talks link here is all) = absurd (cc (sym there ∙ here))
  calm_row r peer line same there none calm (closes o here q shut is all) = grind arith
  calm_row r peer line same there none calm (over h) = differ (is_some w.end.ended) h (ap is_some was)

  calm_later : Answered → AllByRecursion (λ (v : Value). names n v ≡ true → IsNoCc v) later
  calm_later (firm, ((p, c, at, tracked, is), there), none) =
      let g = f.lines p c at tracked in
      picked_each IsNoCc (names n) later
      (calm_row g.r g.peer g.line (sym g.left ∙ is) (ap (λ (i : ℕ). value_at i w.end.live) (sym g.left ∙ is) ∙ there) none
      (g.calm (sane.judged firm p c at)) g.row)

  keeps_by : (v : Value) (m : ℕ) (x : Connect) → v ≡ confirm m x → m ≡ n → w.judge.course.loose ≡ false →
      Tracked w.judge.connections n × (value_at n w.end.live ≡ Some asked) → (Answered → names n v ≡ true → IsNoCc v) → (d : Bool) →
      is_dc u ≡ d → value_at n t.live ≡ Some asked
  keeps_by v m x e same firm k none true dc = asked_dc dc k.1
  keeps_by v m x e same firm k none false dc =
      absurd (none (firm, k, dc) (named_so n v (ap destination_of e ∙ ap (λ (i : ℕ). Some i) same)) m x e)

  pub dc_still : AllByRecursion (λ (v : Value). (m : ℕ) (x : Connect) → v ≡ confirm m x → m ≡ n → w.judge.course.loose ≡ false →
      Tracked w.judge.connections n × (value_at n w.end.live ≡ Some asked) → value_at n t.live ≡ Some asked) later
  dc_still = all_so (λ v. Answered → names n v ≡ true → IsNoCc v) (λ v. (m : ℕ) (x : Connect) → v ≡ confirm m x → m ≡ n →
      w.judge.course.loose ≡ false → Tracked w.judge.connections n × (value_at n w.end.live ≡ Some asked) →
      value_at n t.live ≡ Some asked) later (λ v none m x e same firm k. keeps_by v m x e same firm k none (is_dc u) refl)
      (all_under Answered (λ v. names n v ≡ true → IsNoCc v) later calm_later)
