-- An end took a unit of a connection: what remains to be proved of its carrier, if its session is known.
-- For turns, breaks and ends, packets, carries and the promises.
use Rattle.osi_pair.proofs.Vocabulary.{◌≡◌, ◌≢◌, ℕ, ◌≤◌, Bool, true, false, nat_lt, List, [], ◌++◌, map, Some, None, is_some, option_map}
use Rattle.osi_pair.proofs.Vocabulary.{refl, sym, ap, subst, ◌∙◌, arith, Held, place_at, value_at, State, Between, last_of, progress_of}
use Rattle.osi_pair.proofs.Vocabulary.{Progress, not_yet, Terms, terms_of, shown_at, Line, Tables, Message, Listener, Standing, Shown}
use Rattle.osi_pair.proofs.Vocabulary.{kept_at, End, Holding, TwoEnds, end_at, other, side_in, is_caller, class_in, carriers_of, Goes}
use Rattle.osi_pair.proofs.Vocabulary.{IsSeated, IsInOrder, Stands, waiting_in, Side, Left, Right}
use Rattle.osi_pair.proofs.flight.a_taken_packet_is_one_row.{UnitActs, PacketActs}
use Rattle.osi_pair.proofs.flight.what_may_arrive_row_by_row.{Row, agrees, before, after}
use Rattle.osi_pair.proofs.session.a_seat_is_its_progress_and_session.{transport_by, value_same, HasSession, seat_of_session}
use Rattle.osi_pair.proofs.turn.a_turn_keeps_the_match.{IsSeen, still_seated, with_holding, holding_here, holding_there}
use Rattle.osi_pair.proofs.turn.a_turn_keeps_the_match.{GivenAfter, TablesStay, Others, LinesAfter, Turned}
use Rattle.osi_pair.proofs.flight.whether_something_is_cut_off.{Lasts}

-- ---- references and the class

abbrev pub is_agree : Row → Bool
is_agree agrees = true
is_agree row = false

pub given_not_new : (n : ℕ) (s : State) (b : Bool) → nat_lt s.given n ≡ b → n ≤ s.given → progress_of (place_at n s) ≡ not_yet → ⊥
given_not_new n s b e le h = grind arith

-- ---- what remains to be proved

-- the tables have this line, and their users received these indications
pub record TablesAfter (s : Side) (n : ℕ) (t u : Tables) (shown : List Shown) (line : Line) : Type 0 where
  pub stay : TablesStay t u
  pub journal : u.journal ≡ t.journal ++ map (shown_at (side_in s) n) shown
  pub lines : LinesAfter s n line t u

-- the connection then, seen from the end that acted
abbrev pub line_then : Row → Standing → List Message → List Message → Line → Line
line_then row x channel back l = record {
  own = record { transport = transport_by (after row); session = x; channel = channel };
  peer = record l.peer { channel = back };
}

-- the sessions of all other connections
pub record OtherSessions (s : Side) (p : TwoEnds) (e : End) (n : ℕ) : Type 0 where
  pub sessions : (q : ℕ) → q ≢ n → is_some (value_at q e.carrier.live) ≡ true → kept_at q e.lines ≡ kept_at q (end_at s p).end.lines
  pub kept : (q : ℕ) → q ≢ n → (x : Listener) → kept_at q e.lines ≡ Some x → kept_at q (end_at s p).end.lines ≡ Some x

abbrev pub terms_at : TwoEnds → Terms
terms_at p = terms_of p.left.end.carrier.local p.right.end.carrier.local

-- the effect of a packet that arrives at an end that then holds these octets
abbrev pub PacketAt : Side → TwoEnds → Between → List ℕ → Held → Type 0
PacketAt s p b packet h = PacketActs (terms_at p) (is_caller s) (carriers_of p) b packet h.octets

abbrev pub DidAt : Side → TwoEnds → Between → End → Held → ℕ → Type 0
DidAt s p b e h n = UnitActs (terms_at p) (is_caller s) (is_caller (other s)) (carriers_of p) b n (carriers_of (with_holding s e h p))

pub last_is : (s : Side) (p : TwoEnds) (b : Between) (e : End) (h : Held) (n : ℕ) → (d : DidAt s p b e h n) → e.carrier.ended ≡ None →
    last_of (is_caller s) d.now ≡ e.carrier
last_is s p b e h n d lasts = search arith

pub was_at : (s : Side) (p : TwoEnds) (b : Between) (t : Tables) → Stands p b t → Lasts s p →
    last_of (is_caller s) b ≡ (end_at s p).end.carrier
was_at s p b t old alive = grind arith

pub order_of : (s : Side) (p : TwoEnds) (b : Between) (t : Tables) → Stands p b t → Lasts s p → IsInOrder (end_at s p).end
order_of s p b t old alive = grind arith

others_then : (s : Side) (p : TwoEnds) (b : Between) (t : Tables) (e : End) (h : Held) (n : ℕ) → Stands p b t → Lasts s p →
    (d : DidAt s p b e h n) → e.carrier.ended ≡ None → IsInOrder e → OtherSessions s p e n → Others s p b e h d.now n
others_then s p b t e h n old alive d lasts order o =
    let last = last_is s p b e h n d lasts in
    search (arith, value_same, order_of s p b t old alive)

-- what is in flight then, each way
pub record WaysThen (s : Side) (p : TwoEnds) (b : Between) (e : End) (h : Held) (n : ℕ) (d : DidAt s p b e h n) (own peer : Standing)
    (sends comes : List Message) : Type 0 where
  pub out : Goes s (other s) n (with_holding s e h p) d.now
      (progress_of (place_at n (last_of (is_caller (other s)) d.now))) peer.state sends
  pub back : Goes (other s) s n (with_holding s e h p) d.now (after d.row) own.state comes

seen_then : (s : Side) (p : TwoEnds) (b : Between) (t : Tables) (e : End) (h : Held) (n : ℕ) (l : Line) (x : Standing)
    (channel back : List Message) → (d : DidAt s p b e h n) → e.carrier.ended ≡ None → IsInOrder e → HasSession n e.lines (after d.row) x →
    IsSeen s n p b l → WaysThen s p b e h n d x l.peer.session channel back →
    IsSeen s n (with_holding s e h p) d.now (line_then d.row x channel back l)
seen_then s p b t e h n l x channel back d lasts order hs i w =
    assumption (
      subst (λ (y : Holding). IsSeated n y (line_then d.row x channel back l).own) (sym (holding_here s e h p))
          (seat_of_session n e h (after d.row) x channel order.sound.orderly
          (ap (λ (c : State). progress_of (place_at n c)) (sym (last_is s p b e h n d lasts)) ∙ d.stands) hs),
      subst
          (λ (y : Holding). IsSeated n y (line_then d.row x channel back l).peer) (sym (holding_there s e h p))
          (still_seated n (end_at (other s) p) l.peer back i.there),
      w.out,
      subst
          (λ (g : Progress). Goes (other s) s n (with_holding s e h p) d.now g x.state back) (sym d.stands) w.back,
    )

pub given_after : (s : Side) (p : TwoEnds) (b : Between) (t : Tables) (e : End) (h : Held) (n : ℕ) → Stands p b t → Lasts s p →
    (d : DidAt s p b e h n) → e.carrier.ended ≡ None → n ≤ b.caller.given → d.now.called.given ≤ d.now.caller.given →
    GivenAfter s p t e h d.now
given_after Left p b t e h n old alive d lasts named behind =
    let last = last_is Left p b e h n d lasts in
    let new : before d.row ≡ not_yet → ⊥ = λ f. given_not_new n b.caller (nat_lt b.caller.given n) refl named (d.stood ∙ f) in
    grind arith
given_after Right p b t e h n old alive d lasts named behind = search (arith, last_is)

-- for an end that took a unit, everything that is stated of an end that acted
pub finish : (s : Side) (p : TwoEnds) (b : Between) (t u : Tables) (e : End) (h : Held) (n : ℕ) (shown : List Shown) (l : Line)
    (x : Standing) (channel back : List Message) → Stands p b t → Lasts s p → (d : DidAt s p b e h n) → e.carrier.ended ≡ None →
    e.carrier.local ≡ (end_at s p).end.carrier.local → e.carrier.is_caller ≡ (end_at s p).end.carrier.is_caller → n ≤ b.caller.given →
    d.now.called.given ≤ d.now.caller.given → IsInOrder e → waiting_in e.lines ≡ [] → OtherSessions s p e n →
    HasSession n e.lines (after d.row) x → IsSeen s n p b l → WaysThen s p b e h n d x l.peer.session channel back →
    TablesAfter s n t u shown (line_then d.row x channel back l) →
    u.known ≡ option_map class_in (with_holding s e h p).left.end.carrier.class → Turned s p b t e h d.now u n shown
finish s p b t u e h n shown l x channel back old alive d lasts local role named behind order none o hs i w a known =
    search (arith, seen_then, others_then, given_after s p b t e h n old alive d lasts named behind)

-- ---- the class

-- if no CC has arrived, the class is known as before
pub known_then : (s : Side) (p : TwoEnds) (b : Between) (t : Tables) (e : End) (h : Held) (n : ℕ) → Stands p b t → Lasts s p →
    (d : DidAt s p b e h n) → e.carrier.ended ≡ None → n ≤ b.caller.given → is_agree d.row ≡ false →
    t.known ≡ option_map class_in (with_holding s e h p).left.end.carrier.class
known_then Left p b t e h n old alive d lasts named row =
    let same : e.carrier.class ≡ b.caller.class =
    ap (λ (c : State). c.class) (sym (last_is Left p b e h n d lasts)) ∙ d.class ∙ (grind (arith, d.is)) in
    old.known ∙ ap (option_map class_in) (sym old.class_then) ∙ ap (option_map class_in) (sym same)
known_then Right p b t e h n old alive d lasts named row = old.known
