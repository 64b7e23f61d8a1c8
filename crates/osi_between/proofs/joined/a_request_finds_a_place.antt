-- A caller that may request a connection finds a place at the called end: once the units in flight are taken, no more
-- connections are live there than at the caller.
-- For joined carriers.
use Rattle.osi_between.proofs.Vocabulary.{◌≡◌, ◌≢◌, ℕ, ◌+◌, ◌<◌, ◌≤◌, ◌==◌, Bool, true, false, List, [], ◌∷◌, ◌++◌, length, map, Option}
use Rattle.osi_between.proofs.Vocabulary.{Some, None, refl, sym, ap, subst, ◌∙◌, arith, nat_lt, is_some, eq-eqb, eqb-true, ne_eqb, ltb-true}
use Rattle.osi_between.proofs.Vocabulary.{ltb-false, map-append, Value, request, disconnect, disconnected, dropped, references, never}
use Rattle.osi_between.proofs.Vocabulary.{place_at, RiseFrom, AreUpTo, IsOrderly, Rows, value_at, without, Connection, State, absent}
use Rattle.osi_between.proofs.Vocabulary.{beyond, push_here, without_here, push_other, without_other, push_rise, push_up, without_rise}
use Rattle.osi_between.proofs.Vocabulary.{without_up, reference_of, units_of, asked_by, requests, behind, live_behind, live_after, is_last}
use Rattle.osi_between.proofs.Vocabulary.{AreJoined, found, length-map}
use Rattle.osi_between.proofs.meeting.how_a_connection_changes_at_each_end.{given_place}
use Rattle.osi_between.proofs.unit.the_units_of_one_connection.{first_asked}

-- ---- references as a table

abbrev Marks : Type 0
Marks = Rows (Unit {0})

abbrev marked : List ℕ → Marks
marked refs = map (λ r. (r, tt)) refs

marked_dropped_by : (r q : ℕ) (refs : List ℕ) (b : Bool) → (q == r) ≡ b → marked (dropped r refs) ≡ without r (marked refs) →
    marked (dropped r (q ∷ refs)) ≡ without r (marked (q ∷ refs))
marked_dropped_by r q refs b e more = grind arith

marked_dropped : (r : ℕ) (refs : List ℕ) → marked (dropped r refs) ≡ without r (marked refs)
marked_dropped r [] = refl
marked_dropped r (q ∷ refs) = marked_dropped_by r q refs (q == r) refl (marked_dropped r refs)

marked_rise : (n : ℕ) (rows : Rows Connection) → RiseFrom n rows → RiseFrom n (marked (references rows))
marked_rise n [] h = tt
marked_rise n ((r, x) ∷ rows) h = (h.0, marked_rise r rows h.1)

marked_up : (n : ℕ) (rows : Rows Connection) → AreUpTo n rows → AreUpTo n (marked (references rows))
marked_up n [] h = tt
marked_up n ((r, x) ∷ rows) h = (h.0, marked_up n rows h.1)

marked_none_by : (q r : ℕ) (x : Connection) (rows : Rows Connection) (b : Bool) → (r == q) ≡ b →
    (value_at q rows ≡ None → value_at q (marked (references rows)) ≡ None) → value_at q ((r, x) ∷ rows) ≡ None →
    value_at q ((r, tt) ∷ marked (references rows)) ≡ None
marked_none_by q r x rows b e more h = grind (arith, found)

marked_none : (q : ℕ) (rows : Rows Connection) → value_at q rows ≡ None → value_at q (marked (references rows)) ≡ None
marked_none q [] h = refl
marked_none q ((r, x) ∷ rows) h = marked_none_by q r x rows (r == q) refl (marked_none q rows) h

-- ---- a unit

-- whether a reference is live after a unit for it
abbrev stays_behind : Option (Unit {0}) → Value → Option (Unit {0})
stays_behind o (request c) = Some tt
stays_behind o (disconnect destination source reason user) = None
stays_behind o (disconnected destination source) = None
stays_behind o unit = o

abbrev stays_after : Option (Unit {0}) → List Value → Option (Unit {0})
stays_after o [] = o
stays_after o (unit ∷ units) = stays_after (stays_behind o unit) units

record Behind (g : ℕ) (refs : List ℕ) (u : Value) : Type 0 where
  next : ℕ
  rise : RiseFrom 0 (marked (live_behind refs u))
  up : AreUpTo next (marked (live_behind refs u))
  own : value_at (reference_of u) (marked (live_behind refs u)) ≡ stays_behind (value_at (reference_of u) (marked refs)) u
  other : (q : ℕ) → q ≢ reference_of u → value_at q (marked (live_behind refs u)) ≡ value_at q (marked refs)
  numbers : (k : ℕ) (more : List ℕ) → asked_by u ++ more ≡ behind g k → (j : ℕ) × (more ≡ behind next j)

dropped_behind : (g d : ℕ) (refs : List ℕ) (u : Value) → RiseFrom 0 (marked refs) → AreUpTo g (marked refs) →
    live_behind refs u ≡ dropped d refs → asked_by u ≡ [] → reference_of u ≡ d →
    stays_behind (value_at (reference_of u) (marked refs)) u ≡ None → Behind g refs u
dropped_behind g d refs u rise up same none is stays =
    let rows : marked (live_behind refs u) ≡ without d (marked refs) = ap marked same ∙ marked_dropped d refs in
    record {
      next = g;
      rise = subst (λ (l : Marks). RiseFrom 0 l) (sym rows) (without_rise 0 d (marked refs) rise);
      up = subst (λ (l : Marks). AreUpTo g l) (sym rows) (without_up g d (marked refs) up);
      own = grind (arith, without_here);
      other = λ q apart. ap (λ (l : Marks). value_at q l) rows ∙ without_other q d (marked refs) (λ e. apart (e ∙ sym is));
      numbers = λ k more e. (k, ap (λ (l : List ℕ). l ++ more) (sym none) ∙ e);
    }

one_behind : (g k : ℕ) (refs : List ℕ) (u : Value) (more : List ℕ) → RiseFrom 0 (marked refs) → AreUpTo g (marked refs) →
    asked_by u ++ more ≡ behind g k → Behind g refs u
one_behind g k refs (request c) more rise up e =
    let next : c.source ≡ g + 1 = (first_asked g k c.source more e).0 in
    let rows : marked (refs ++ c.source ∷ []) ≡ marked refs ++ (g + 1, tt) ∷ [] =
    map-append (λ (r : ℕ). (r, tt)) refs (c.source ∷ []) ∙ ap (λ (m : ℕ). marked refs ++ (m, tt) ∷ []) next in
    record {
      next = g + 1;
      rise = subst (λ (l : Marks). RiseFrom 0 l) (sym rows) (push_rise 0 g tt (marked refs) (omega arith) rise up);
      up = subst (λ (l : Marks). AreUpTo (g + 1) l) (sym rows) (push_up g tt (marked refs) up);
      own = grind (arith, push_here, beyond);
      other = λ q apart. ap (λ (l : Marks). value_at q l) rows ∙ push_other q (g + 1) tt (marked refs) (λ is. apart (is ∙ sym next));
      numbers = λ j later is. (let n = first_asked g j c.source later is in (n.1, n.3));
    }
one_behind g k refs (disconnect d source reason user) more rise up e =
    dropped_behind g d refs (disconnect d source reason user) rise up refl refl refl refl
one_behind g k refs (disconnected d source) more rise up e = dropped_behind g d refs (disconnected d source) rise up refl refl refl refl
one_behind g k refs u more rise up e =
    record { next = g; rise = rise; up = up; own = refl; other = λ q apart. refl; numbers = λ j later is. (j, is) }

-- ---- units one after the other

record After (refs : List ℕ) (us : List Value) : Type 0 where
  rise : RiseFrom 0 (marked (live_after refs us))
  each : (q : ℕ) → value_at q (marked (live_after refs us)) ≡ stays_after (value_at q (marked refs)) (units_of q us)

each_by : (g : ℕ) (refs : List ℕ) (u : Value) (us : List Value) (q : ℕ) (b : Bool) → (reference_of u == q) ≡ b → Behind g refs u →
    value_at q (marked (live_after (live_behind refs u) us)) ≡ stays_after (value_at q (marked (live_behind refs u))) (units_of q us) →
    value_at q (marked (live_after (live_behind refs u) us)) ≡ stays_after (value_at q (marked refs)) (units_of q (u ∷ us))
each_by g refs u us q b e h more = grind (arith, eqb-true, eq-eqb)

after_all : (us : List Value) (g k : ℕ) (refs : List ℕ) → RiseFrom 0 (marked refs) → AreUpTo g (marked refs) → requests us ≡ behind g k →
    After refs us
after_all [] g k refs rise up e = record { rise = rise; each = λ q. refl }
after_all (u ∷ us) g k refs rise up e =
    let h = one_behind g k refs u (requests us) rise up e in
    let n = h.numbers k (requests us) e in
    let more = after_all us h.next n.0 (live_behind refs u) h.rise h.up n.1 in
    record { rise = more.rise; each = λ q. each_by g refs u us q (reference_of u == q) refl h (more.each q) }

-- ---- two tables in the order of references

sub_by : (ys : Rows Connection) (y : ℕ) (c : Connection) (m x : ℕ) (xs : Marks) (b : Bool) → (x == y) ≡ b → RiseFrom x xs → RiseFrom y ys →
    ((q : ℕ) → is_some (value_at q ((x, tt) ∷ xs)) ≡ true → is_some (value_at q ((y, c) ∷ ys)) ≡ true) →
    ((n : ℕ) (zs : Marks) → RiseFrom n zs → RiseFrom n ys → ((q : ℕ) → is_some (value_at q zs) ≡ true → is_some (value_at q ys) ≡ true) →
    length zs ≤ length ys) → length ((x, tt) ∷ xs) ≤ length ((y, c) ∷ ys)
sub_by ys y c m x xs true e rx ry h more = grind (arith, eqb-true, ne_eqb, absent, is_some, found)
sub_by ys y c m x xs false e rx ry h more =
    let apart : (y == x) ≡ false = ne_eqb y x (λ is. let yes = eq-eqb x y (sym is) in cc) in
    let above : y < x = grind (arith, ltb-true, absent, ltb-false, is_some) in
    let rest = more y ((x, tt) ∷ xs) (above, rx) ry
    (grind (arith, ne_eqb, absent, found)) in
    omega arith

sub_length : (ys : Rows Connection) (m : ℕ) (xs : Marks) → RiseFrom m xs → RiseFrom m ys →
    ((q : ℕ) → is_some (value_at q xs) ≡ true → is_some (value_at q ys) ≡ true) → length xs ≤ length ys
sub_length [] m ((x, tt) ∷ xs) rx ry h = let there = h x (ap is_some (found x x tt xs true (eq-eqb x x refl))) in cc
sub_length ((y, c) ∷ ys) m ((x, tt) ∷ xs) rx ry h = sub_by ys y c m x xs (x == y) refl rx.1 ry.1 h (sub_length ys)
sub_length ys m xs rx ry h = omega arith

-- ---- a connection that is live after the units is live at the caller

last_after : (us : List Value) (u : Value) (o : Option (Unit {0})) → is_last u ≡ true → stays_after o (us ++ u ∷ []) ≡ None
last_after [] u o e = grind arith
last_after (v ∷ us) u o e = last_after us u (stays_behind o v) e

never_live_by : (q : ℕ) (r : State) (b : Bool) → nat_lt r.given q ≡ b → IsOrderly r → place_at q r ≡ never → value_at q r.live ≡ None
never_live_by q r b e orderly at = grind (arith, beyond, ltb-true, given_place, ltb-false)

live_behind_one : (q : ℕ) (b : Bool) (s r : State) (going coming : List Value) → nat_lt 0 q ≡ b → AreJoined s r going coming →
    After (references r.live) going → is_some (value_at q (marked (live_after (references r.live) going))) ≡ true →
    is_some (value_at q s.live) ≡ true
live_behind_one q false s r going coming e j a there = grind (arith, absent, ltb-false, is_some)
live_behind_one q true s r going coming e j a there =
    search (arith, is_some, last_after, marked_none, never_live_by, j.stands q (ltb-true 0 q e))

pub no_more_live : (s r : State) (going coming : List Value) → AreJoined s r going coming →
    length (live_after (references r.live) going) ≤ length s.live
no_more_live s r going coming j =
    let refs = live_after (references r.live) going in
    let a = after_all going r.given j.ahead (references r.live) (marked_rise 0 r.live j.orderly_called.rise)
    (marked_up r.given r.live j.orderly_called.up_to) j.numbers in
    let few = sub_length s.live 0 (marked refs) a.rise j.orderly.rise
    (λ q there. live_behind_one q (nat_lt 0 q) s r going coming refl j a there) in
    let size : length (marked refs) ≡ length refs = length-map refs (λ q. (q, tt)) in
    omega arith
