-- If one end acts for one connection, two ends still match the tables.
-- For what is in flight, sessions, turns, calls, breaks and ends, packets and carries.
use Rattle.osi_machine.specs.Core as machine
use Rattle.osi_machine.specs.Machine as entries
use Rattle.osi_pair.proofs.Vocabulary.{◌≡◌, ◌≢◌, ℕ, ◌≤◌, Bool, true, List, [], ◌∷◌, ◌++◌, length, map, Some, None, is_some, option_map}
use Rattle.osi_pair.proofs.Vocabulary.{refl, sym, ap, subst, ◌∙◌, not, ◌<◌, arith, map-append, Held, place_at, value_at, Between}
use Rattle.osi_pair.proofs.Vocabulary.{AreBetween, last_of, under_way, is_cut, progress_of, terms_of, shown_at, connection_at, Seat, Line}
use Rattle.osi_pair.proofs.Vocabulary.{Tables, seen_from, Listener, Shown, kept_at, End, Holding, TwoEnds, end_at, with_end, noted, Entry}
use Rattle.osi_pair.proofs.Vocabulary.{other, side_in, is_caller, class_in, entry_in, carriers_of, IsSeated, IsUnderWay, IsLine, HasLine}
use Rattle.osi_pair.proofs.Vocabulary.{IsInOrder, Stands, HasJoined, AreUnderWay, Goes, waiting_in, shown_entries, Side, Left, Right}
use Rattle.osi_pair.proofs.Vocabulary.{Progress, Message, SessionState}
use Rattle.osi_pair.proofs.flight.whether_something_is_cut_off.{Lasts, this_or_other}
use Rattle.osi_pair.proofs.flight.what_is_in_flight_when_an_end_acts.{way_same}

-- ---- a connection, seen from one of its sides

pub record IsSeen (s : Side) (n : ℕ) (p : TwoEnds) (b : Between) (l : Line) : Type 0 where
  pub here : IsSeated n (end_at s p) l.own
  pub there : IsSeated n (end_at (other s) p) l.peer
  pub out : IsUnderWay s (other s) n p b l.own l.peer
  pub back : IsUnderWay (other s) s n p b l.peer l.own

pub seen : (s : Side) (n : ℕ) (p : TwoEnds) (b : Between) (l : Line) → IsLine n p b l → IsSeen s n p b (seen_from (side_in s) l)
seen Left n p b l h = record { here = h.left; there = h.right; out = h.rightward; back = h.leftward }
seen Right n p b l h = record { here = h.right; there = h.left; out = h.leftward; back = h.rightward }

pub unseen : (s : Side) (n : ℕ) (p : TwoEnds) (b : Between) (l : Line) → IsSeen s n p b l → IsLine n p b (seen_from (side_in s) l)
unseen Left n p b l h = record { left = h.here; right = h.there; rightward = h.out; leftward = h.back }
unseen Right n p b l h = record { left = h.there; right = h.here; rightward = h.back; leftward = h.out }

pub seen_twice : (s : machine.Side) (l : Line) → seen_from s (seen_from s l) ≡ l
seen_twice s l = grind arith

-- whatever its channel
pub still_seated : (n : ℕ) (h : Holding) (seat : Seat) (ms : List Message) → IsSeated n h seat → IsSeated n h (record seat { channel = ms })
still_seated n h seat ms s = grind arith

-- ---- the end of a side is another

abbrev pub with_holding : Side → End → Held → TwoEnds → TwoEnds
with_holding s e h p = with_end s (record { end = e; held = h }) p

pub holding_here : (s : Side) (e : End) (h : Held) (p : TwoEnds) → end_at s (with_holding s e h p) ≡ record { end = e; held = h }
holding_here s e h p = grind arith

pub holding_there : (s : Side) (e : End) (h : Held) (p : TwoEnds) → end_at (other s) (with_holding s e h p) ≡ end_at (other s) p
holding_there s e h p = grind arith

pub still_there : (s : Side) (b c : Between) → last_of (not (is_caller s)) c ≡ last_of (not (is_caller s)) b →
    last_of (is_caller (other s)) c ≡ last_of (is_caller (other s)) b
still_there s b c e = grind arith

-- what is in flight to the other end, and to this one
abbrev pub GoesTo : Side → Holding → ℕ → TwoEnds → Between → Progress → SessionState → List Message → Type 0
GoesTo s taker n p b g x ms =
    AreUnderWay taker.end.carrier.ended g (is_cut (is_caller s) (carriers_of p)) (HasJoined n taker) x ms
    (under_way (is_caller s) n (carriers_of p) b)

pub out_there : (s : Side) (p : TwoEnds) (c : Between) (e : End) (h : Held) (n : ℕ) (g : Progress) (x : SessionState) (ms : List Message) →
    GoesTo s (end_at (other s) p) n (with_holding s e h p) c g x ms → Goes s (other s) n (with_holding s e h p) c g x ms
out_there s p c e h n g x ms way = subst (λ (y : Holding). GoesTo s y n (with_holding s e h p) c g x ms) (sym (holding_there s e h p)) way

pub back_here : (s : Side) (p : TwoEnds) (c : Between) (e : End) (h : Held) (n : ℕ) (g : Progress) (x : SessionState) (ms : List Message) →
    GoesTo (other s) (record { end = e; held = h }) n (with_holding s e h p) c g x ms → Goes (other s) s n (with_holding s e h p) c g x ms
back_here s p c e h n g x ms way = grind (arith, holding_here)

pub seen_with : (s : Side) (p : TwoEnds) (c : Between) (e : End) (h : Held) (n : ℕ) (l : Line) →
    IsSeated n (record { end = e; held = h }) l.own → IsSeated n (end_at (other s) p) l.peer →
    GoesTo s (end_at (other s) p) n (with_holding s e h p) c (progress_of (place_at n (last_of (is_caller (other s)) c)))
    l.peer.session.state l.own.channel →
    GoesTo (other s) (record { end = e; held = h }) n (with_holding s e h p) c (progress_of (place_at n (last_of (is_caller s) c)))
    l.own.session.state l.peer.channel → IsSeen s n (with_holding s e h p) c l
seen_with s p c e h n l here there out back = record {
  here = subst (λ (y : Holding). IsSeated n y l.own) (sym (holding_here s e h p)) here;
  there = subst (λ (y : Holding). IsSeated n y l.peer) (sym (holding_there s e h p)) there;
  out = out_there s p c e h n _ _ _ out;
  back = back_here s p c e h n _ _ _ back;
}

-- what stays of all other connections
pub record Others (s : Side) (p : TwoEnds) (b : Between) (e : End) (h : Held) (c : Between) (n : ℕ) : Type 0 where
  pub places : (q : ℕ) → q ≢ n → place_at q e.carrier ≡ place_at q (end_at s p).end.carrier
  pub lives : (q : ℕ) → q ≢ n → value_at q e.carrier.live ≡ value_at q (end_at s p).end.carrier.live
  pub sessions : (q : ℕ) → q ≢ n → is_some (value_at q e.carrier.live) ≡ true → kept_at q e.lines ≡ kept_at q (end_at s p).end.lines
  pub kept : (q : ℕ) → q ≢ n → (x : Listener) → kept_at q e.lines ≡ Some x → kept_at q (end_at s p).end.lines ≡ Some x
  pub ways : (q : ℕ) → q ≢ n → (from : Bool) → under_way from q (carriers_of p) b ≡ under_way from q (carriers_of (with_holding s e h p)) c
  pub last : (q : ℕ) → q ≢ n → place_at q (last_of (is_caller s) c) ≡ place_at q (last_of (is_caller s) b)
  pub there : (q : ℕ) → place_at q (last_of (is_caller (other s)) c) ≡ place_at q (last_of (is_caller (other s)) b)

other_seated : (s : Side) (p : TwoEnds) (b : Between) (e : End) (h : Held) (c : Between) (n q : ℕ) (seat : Seat) → q ≢ n →
    Others s p b e h c n → IsSeated q (end_at s p) seat → IsSeated q (record { end = e; held = h }) seat
other_seated s p b e h c n q seat apart o i = grind arith

pub other_seen : (s : Side) (p : TwoEnds) (b : Between) (e : End) (h : Held) (c : Between) (n q : ℕ) (l : Line) → q ≢ n → Lasts s p →
    Others s p b e h c n → IsSeen s q p b l → IsSeen s q (with_holding s e h p) c l
other_seen s p b e h c n q l apart alive o i =
    seen_with s p c e h q l (other_seated s p b e h c n q l.own apart o i.here) i.there (grind (arith, way_same))
    (way_same (end_at s p).end.carrier.ended _ _ _ _ _ (HasJoined q (end_at s p)) _ _ _ _ _ (λ x. alive)
    (ap progress_of (o.last q apart)) (grind arith) (λ x held y at. held y (o.kept q apart y at)) (o.ways q apart (is_caller (other s)))
    i.back)

-- ---- the lines

-- the line of this connection is another, and no other is
pub record LinesAfter (s : Side) (n : ℕ) (line : Line) (t u : Tables) : Type 0 where
  pub count : length u.lines ≡ length t.lines
  pub found : connection_at n u.lines ≡ Some (seen_from (side_in s) line)
  pub others : (q : ℕ) → q ≢ n → connection_at q u.lines ≡ connection_at q t.lines

line_then : (s : Side) (p : TwoEnds) (b : Between) (e : End) (h : Held) (c : Between) (n q : ℕ) (line : Line) (t u : Tables) → Lasts s p →
    Others s p b e h c n → IsSeen s n (with_holding s e h p) c line → LinesAfter s n line t u → HasLine q p b t →
    HasLine q (with_holding s e h p) c u
line_then s p b e h c n q line t u alive o i a old =
    this_or_other n q (λ m. HasLine m (with_holding s e h p) c u)
    (record { line = seen_from (side_in s) line; found = a.found; is = unseen s n (with_holding s e h p) c line i })
    (λ apart. record {
      line = old.line;
      found = a.others q apart ∙ old.found;
      is = subst (λ (l : Line). IsLine q (with_holding s e h p) c l) (seen_twice (side_in s) old.line)
          (search (arith, unseen, other_seen, seen));
    })

-- ---- the journal

pub shown_says : (s : Side) (n : ℕ) (shown : List Shown) →
    map Some (map (shown_at (side_in s) n) shown) ≡ map entry_in (shown_entries s (map (λ x. (n, x)) shown))
shown_says s n [] = refl
shown_says s n (x ∷ shown) = ap (λ l. Some (shown_at (side_in s) n x) ∷ l) (shown_says s n shown)

-- one that continues as the other does
pub journals_join : (old more : List entries.Entry) (before said : List Entry) → map Some old ≡ map entry_in before →
    map Some more ≡ map entry_in said → map Some (old ++ more) ≡ map entry_in (before ++ said)
journals_join old more before said e f = grind (arith, map-append)

-- ---- two ends

-- the references and the class that the ends have then
pub record GivenAfter (s : Side) (p : TwoEnds) (t : Tables) (e : End) (h : Held) (c : Between) : Type 0 where
  pub given : (with_holding s e h p).left.end.carrier.given ≡ p.left.end.carrier.given
  pub given_back : (with_holding s e h p).right.end.carrier.given ≤ length t.lines
  pub given_then : c.caller.given ≡ (with_holding s e h p).left.end.carrier.given
  pub class_then : c.caller.class ≡ (with_holding s e h p).left.end.carrier.class

-- the terms, and which side has ended, stay
pub record TablesStay (t u : Tables) : Type 0 where
  pub terms : u.terms ≡ t.terms
  pub broken : u.broken ≡ t.broken
  pub left_end : u.left_end ≡ t.left_end
  pub right_end : u.right_end ≡ t.right_end

-- An end (`e`, with what it holds) acted for a connection and goes on; its user received `shown`; and the tables
-- are `u`.
pub record Turned (s : Side) (p : TwoEnds) (b : Between) (t : Tables) (e : End) (h : Held) (c : Between) (u : Tables) (n : ℕ)
    (shown : List Shown) : Type 0 where
  pub between : AreBetween (terms_of p.left.end.carrier.local p.right.end.carrier.local) (carriers_of (with_holding s e h p)) c
  pub lasts : e.carrier.ended ≡ None
  pub local : e.carrier.local ≡ (end_at s p).end.carrier.local
  pub is_caller : e.carrier.is_caller ≡ (end_at s p).end.carrier.is_caller
  pub known : u.known ≡ option_map class_in (with_holding s e h p).left.end.carrier.class
  pub gives : GivenAfter s p t e h c
  pub stay : TablesStay t u
  pub journal : u.journal ≡ t.journal ++ map (shown_at (side_in s) n) shown
  pub line : Line
  pub lines : LinesAfter s n line t u
  pub is : IsSeen s n (with_holding s e h p) c line
  pub others : Others s p b e h c n
  pub order : IsInOrder e
  pub quiet : waiting_in e.lines ≡ []

abbrev pub turned_pair : Side → End → Held → ℕ → List Shown → TwoEnds → TwoEnds
turned_pair s e h n shown p = noted (shown_entries s (map (λ x. (n, x)) shown)) (with_holding s e h p)

pub turned_stands : (s : Side) (p : TwoEnds) (b : Between) (t : Tables) (e : End) (h : Held) (c : Between) (u : Tables) (n : ℕ)
    (shown : List Shown) → Stands p b t → Lasts s p → Turned s p b t e h c u n shown → Stands (turned_pair s e h n shown p) c u
turned_stands s p b t e h c u n shown old alive x =
    let journal = ap (map Some) x.journal ∙ journals_join t.journal _ p.journal _ old.journal (shown_says s n shown) in
    let lines : (q : ℕ) → 0 < q → q ≤ length u.lines → HasLine q (turned_pair s e h n shown p) c u = λ q some le.
    let was = old.lines q some (subst (λ (k : ℕ). q ≤ k) x.lines.count le) in
    grind (arith, line_then s p b e h c n q x.line t u alive x.others x.is x.lines was) in
    grind arith
