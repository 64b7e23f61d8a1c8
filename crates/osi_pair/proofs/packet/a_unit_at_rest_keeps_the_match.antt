-- An end took a unit: its connection, its session if that does nothing, and what is in flight each way.
-- For turns, breaks and ends and packets.
use Rattle.osi_between.specs.Messages as carrier
use Rattle.osi_pair.proofs.Vocabulary.{◌≡◌, ℕ, ◌<◌, ◌≤◌, Bool, true, false, List, [], ◌∷◌, ◌++◌, Option, Some, refl, sym, ap, subst, ◌∙◌}
use Rattle.osi_pair.proofs.Vocabulary.{arith, append-nil, Held, Value, Place, place_at, Rows, reference_of, Between, last_of, under_way}
use Rattle.osi_pair.proofs.Vocabulary.{put_in, is_cut, progress_of, Progress, leaves_use, connection_at, Line as TableLine, Tables}
use Rattle.osi_pair.proofs.Vocabulary.{seen_from, Message, Standing, told_all, kept_at, End, TwoEnds, end_at, other, side_in, is_caller}
use Rattle.osi_pair.proofs.Vocabulary.{carriers_of, IsInOrder, Stands, Goes, HasJoined, is_parting, Side, Left, Right, Listener, is_ended}
use Rattle.osi_pair.proofs.Vocabulary.{is_over, implied, gone_is, StaysCalm, over_calm, EndLine as Line, SessionState, not, AreBetween}
use Rattle.osi_pair.proofs.Vocabulary.{Both, AreLike, connection_in, ◌≢◌}
use Rattle.osi_pair.proofs.turn.what_remains_when_a_unit_was_taken.{terms_at, DidAt, line_then, was_at, PacketAt}
use Rattle.osi_pair.proofs.packet.a_unit_with_which_no_session_acts.{answer_for, unless_broken, put_unless, sends_then, spare_by}
use Rattle.osi_pair.proofs.flight.what_may_arrive_row_by_row.{Row, quiet, still, refuses, ignores, ends, before, after, arrived_in, put_for}
use Rattle.osi_pair.proofs.session.a_seat_is_its_progress_and_session.{transport_by, transport_at, HasSession}
use Rattle.osi_pair.proofs.turn.a_turn_keeps_the_match.{IsSeen, seen, seen_twice, with_holding, GoesTo, out_there, back_here}
use Rattle.osi_pair.proofs.flight.what_is_in_flight_when_an_end_acts.{out_keeps, back_comes, back_waits, Comes, Alone, alone_of}
use Rattle.osi_pair.proofs.flight.what_is_in_flight_when_an_end_acts.{is_tsdu, BehindFirst}
use Rattle.osi_pair.proofs.flight.whether_something_is_cut_off.{cut_none, Lasts}
use Rattle.osi_pair.proofs.session.an_end_moves_as_the_tables_do.{kept_of}
use Rattle.osi_pair.proofs.flight.a_taken_packet_is_one_row.{heard_both}
use Rattle.osi_pair.proofs.flight.what_a_closing_receiver_has_dropped.{shuts}

-- ---- the end that took the unit

-- its carrier acted, and has no events left; its lines are these
abbrev pub acted_end : Value → Rows Line → End → End
acted_end u lines e = record { carrier = (told_all u e).carrier; lines = lines }

-- what holds of the two carriers after the packet holds of the carriers of the two ends then, whatever the lines
pub carriers_then : (s : Side) (p : TwoEnds) (u : Value) (h : Held) (lines : Rows Line) (X : Bool → Both → Type 0) →
    X (not (is_caller s)) (heard_both (is_caller s) u h.octets (carriers_of p)) →
    X (is_caller (other s)) (carriers_of (with_holding s (acted_end u lines (end_at s p).end) h p))
carriers_then Left p u h lines X x = x
carriers_then Right p u h lines X x = x

-- and so it holds with other lines
pub other_lines : (s : Side) (p : TwoEnds) (u : Value) (h : Held) (lines more : Rows Line) (X : Both → Type 0) →
    X (carriers_of (with_holding s (acted_end u lines (end_at s p).end) h p)) →
    X (carriers_of (with_holding s (acted_end u more (end_at s p).end) h p))
other_lines Left p u h lines more X x = x
other_lines Right p u h lines more X x = x

-- what the carrier did: the row is that of the packet, and so is what is then between the two
abbrev pub did_at : (s : Side) (p : TwoEnds) (b : Between) (packet : List ℕ) (h : Held) (lines : Rows Line) →
    (pa : PacketAt s p b packet h) → DidAt s p b (acted_end pa.unit lines (end_at s p).end) h (reference_of pa.unit)
did_at s p b packet h lines pa =
    let n = reference_of pa.unit in
    let d = pa.did in
    let old = carriers_of p in
    let at = carriers_then s p pa.unit h lines in
    record {
      now = d.now;
      between = at (λ from two. AreBetween (terms_at p) two d.now) d.between;
      row = d.row;
      is = d.is;
      stood = d.stood;
      stands = d.stands;
      came = at (λ from two. AreLike (connection_in (place_at n (last_of (is_caller s) d.now))) (under_way from n old b)
          (arrived_in d.row ++ under_way from n two d.now)) d.came;
      stays = d.stays;
      gone = d.gone;
      out_before = d.out_before;
      out_after = at (λ from two. under_way (is_caller s) n two d.now ≡ d.stays ++ put_in old (put_for d.row)) d.out_after;
      keeps = d.keeps;
      others = at (λ from two. (q : ℕ) → q ≢ n → (way : Bool) → under_way way q old b ≡ under_way way q two d.now) d.others;
      other_places = d.other_places;
      there = at (λ from two. (q : ℕ) → place_at q (last_of from d.now) ≡ place_at q (last_of from b)) d.there;
      given = d.given;
      given_there = at (λ from two. (last_of from d.now).given ≡ (last_of from b).given) d.given_there;
      class = d.class;
      class_there = at (λ from two. (last_of from d.now).class ≡ (last_of from b).class) d.class_there;
    }

pub same_row : (s : Side) (p : TwoEnds) (b : Between) (packet : List ℕ) (h : Held) (lines : Rows Line) → (pa : PacketAt s p b packet h) →
    (did_at s p b packet h lines pa).row ≡ pa.did.row
same_row s p b packet h lines pa = refl

-- ---- its connection

pub record FoundLine (s : Side) (n : ℕ) (p : TwoEnds) (b : Between) (t : Tables) : Type 0 where
  pub line : TableLine
  pub found : connection_at n t.lines ≡ Some (seen_from (side_in s) line)
  pub is : IsSeen s n p b line

-- the line at a reference that the caller gave
pub line_at : (s : Side) (n : ℕ) (p : TwoEnds) (b : Between) (t : Tables) → Stands p b t → 0 < n → n ≤ b.caller.given → FoundLine s n p b t
line_at s n p b t old some le =
    let count = old.given in
    let has = old.lines n some (omega arith) in
    grind (arith, seen_twice (side_in s) has.line, seen s n p b has.line has.is)

-- ---- its session stays

-- the rows in which a session does nothing, and none begins
abbrev pub is_rest : Row → Bool
is_rest quiet = true
is_rest still = true
is_rest (refuses reason) = true
is_rest (ignores octets) = true
is_rest (ends m) = true
is_rest row = false

pub session_rests : (n : ℕ) (lines : Rows Line) (row : Row) (x : Standing) → is_rest row ≡ true → HasSession n lines (before row) x →
    HasSession n lines (after row) x
session_rests n lines row x e h = search arith

-- ---- what is in flight from it

none_sent : (broken : Bool) (channel : List Message) → channel ≡ channel ++ unless_broken broken []
none_sent broken channel = grind (arith, append-nil)

pub out_row : (s : Side) (p : TwoEnds) (b : Between) (t : Tables) (e : End) (h : Held) (n : ℕ) (l : TableLine) → Stands p b t →
    (d : DidAt s p b e h n) → IsSeen s n p b l → leaves_use (before d.row) (after d.row) ≡ false → Lasts s p →
    Goes s (other s) n (with_holding s e h p) d.now (progress_of (place_at n (last_of (is_caller (other s)) d.now))) l.peer.session.state
    (sends_then d.row t.broken l.own.channel)
out_row s p b t e h n l old d i stays alive =
    let there = place_at n (last_of (is_caller (other s)) b) in
    let lasts = (end_at (other s) p).end.carrier.ended in
    let now = with_holding s e h p in
    let new = under_way (is_caller s) n (carriers_of now) d.now in
    let puts = unless_broken t.broken (answer_for d.row) in
    let free = cut_none s p t.broken old.broken alive in
    let all : GoesTo s (end_at (other s) p) n now d.now (progress_of there) l.peer.session.state (l.own.channel ++ puts) =
    out_keeps lasts there (is_cut (is_caller s) (carriers_of p)) (is_cut (is_caller s) (carriers_of now))
    (HasJoined n (end_at (other s) p)) l.peer.session.state l.own.channel puts
    (under_way (is_caller s) n (carriers_of p) b) new d.stays d.gone
    (put_in (carriers_of p) (put_for d.row)) i.out (spare_by t.broken (is_cut (is_caller s) (carriers_of p)) (answer_for d.row) free)
    (grind arith)
    d.out_before d.out_after (d.keeps stays) (grind arith) in
    out_there s p d.now e h n (progress_of (place_at n (last_of (is_caller (other s)) d.now))) l.peer.session.state
    (sends_then d.row t.broken l.own.channel)
    (subst (λ (q : Place). GoesTo s (end_at (other s) p) n now d.now (progress_of q) l.peer.session.state
    (sends_then d.row t.broken l.own.channel)) (sym (d.there n))
    (subst (λ (ms : List Message). GoesTo s (end_at (other s) p) n now d.now (progress_of there) l.peer.session.state ms)
    (sym (grind (arith, put_unless, answer_for, none_sent))) all))

-- ---- what is in flight to it

-- no message arrived
pub back_none : (s : Side) (p : TwoEnds) (b : Between) (e : End) (h : Held) (n : ℕ) (l : TableLine) → (d : DidAt s p b e h n) →
    IsSeen s n p b l → Lasts s p → arrived_in d.row ≡ [] → before d.row ≡ after d.row →
    ((y : Listener) → kept_at n e.lines ≡ Some y → kept_at n (end_at s p).end.lines ≡ Some y) →
    Goes (other s) s n (with_holding s e h p) d.now (after d.row) l.own.session.state l.peer.channel
back_none s p b e h n l d i alive none same kept =
    let now = place_at n (last_of (is_caller s) d.now) in
    let two = with_holding s e h p in
    let new = under_way (is_caller (other s)) n (carriers_of two) d.now in
    subst (λ (g : Progress). Goes (other s) s n two d.now g l.own.session.state l.peer.channel) d.stands
    (back_here s p d.now e h n (progress_of now) l.own.session.state l.peer.channel
    (back_waits (end_at s p).end.carrier.ended e.carrier.ended (progress_of (place_at n (last_of (is_caller s) b))) now
    (is_cut (is_caller (other s)) (carriers_of p)) (is_cut (is_caller (other s)) (carriers_of two))
    (HasJoined n (end_at s p)) (HasJoined n (record { end = e; held = h })) l.own.session.state l.peer.channel
    (under_way (is_caller (other s)) n (carriers_of p) b) new (λ x. ap shuts (d.stands ∙ sym same ∙ sym d.stood) ∙ x)
    i.back alive (grind arith) (λ x held y at. held y (kept y at))
    (grind arith)))

-- one did
pub back_one : (s : Side) (p : TwoEnds) (b : Between) (e : End) (h : Held) (n : ℕ) (l : TableLine) (got : carrier.Message) →
    (d : DidAt s p b e h n) → IsSeen s n p b l → Lasts s p → arrived_in d.row ≡ got ∷ [] →
    Comes (before d.row) (after d.row) (is_cut (is_caller (other s)) (carriers_of (with_holding s e h p)))
    (HasJoined n (end_at s p)) l.own.session.state l.peer.channel got
    (under_way (is_caller (other s)) n (carriers_of (with_holding s e h p)) d.now)
back_one s p b e h n l got d i alive one =
    let two = with_holding s e h p in
    let new = under_way (is_caller (other s)) n (carriers_of two) d.now in
    back_comes d.row (end_at s p).end.carrier.ended (place_at n (last_of (is_caller s) b)) (place_at n (last_of (is_caller s) d.now))
    (is_cut (is_caller (other s)) (carriers_of p))
    (is_cut (is_caller (other s)) (carriers_of two)) (HasJoined n (end_at s p)) l.own.session.state l.peer.channel got
    (under_way (is_caller (other s)) n (carriers_of p) b) new d.stood d.stands i.back alive
    (grind arith)
    (grind arith)

-- that is no TSDU
pub back_alone : (s : Side) (p : TwoEnds) (b : Between) (e : End) (h : Held) (n : ℕ) (l : TableLine) (got : carrier.Message) →
    (d : DidAt s p b e h n) → IsSeen s n p b l → Lasts s p → arrived_in d.row ≡ got ∷ [] → is_tsdu got ≡ false →
    Alone (before d.row) (after d.row) (is_cut (is_caller (other s)) (carriers_of (with_holding s e h p)))
    (HasJoined n (end_at s p)) l.own.session.state l.peer.channel got
    (under_way (is_caller (other s)) n (carriers_of (with_holding s e h p)) d.now)
back_alone s p b e h n l got d i alive one other_kind = search (arith, alone_of, back_one)

-- what is in flight to an end after the first, if its lines are these
pub back_then : (s : Side) (p : TwoEnds) (c : Between) (e : End) (h : Held) (n : ℕ) (g : Progress) (begun : Option (List ℕ))
    (x y : SessionState) (ms : List Message) →
    BehindFirst g (is_cut (is_caller (other s)) (carriers_of (with_holding s e h p))) begun x ms
    (under_way (is_caller (other s)) n (carriers_of (with_holding s e h p)) c) → HasJoined n (record { end = e; held = h }) begun →
    (StaysCalm x ms → StaysCalm y ms) → Goes (other s) s n (with_holding s e h p) c g y ms
back_then s p c e h n g begun x y ms way held calms = search (arith, back_here, with_holding)

-- ---- all of it

-- a session that is closing, or gone, has joined nothing, and joins nothing
pub over_holds : (s : Side) (p : TwoEnds) (n : ℕ) (g : Progress) (x : Standing) (begun : Option (List ℕ)) → IsInOrder (end_at s p).end →
    HasSession n (end_at s p).end.lines g x → is_parting (transport_by g) ≡ true → HasJoined n (end_at s p) begun
over_holds s p n g x begun order h parts y at =
    grind (arith, implied, gone_is, h.kept y at, h.over_now parts, kept_of n y (end_at s p).end order at)

-- and data is no fault to it
pub over_stays : (x : Standing) (ms : List Message) → is_ended x.state.phase ≡ true → StaysCalm x.state ms
over_stays x ms ended = over_calm x.state ms (implied is_ended is_over refl x.state.phase ended)

pub transport_before : (s : Side) (p : TwoEnds) (b : Between) (t : Tables) (e : End) (h : Held) (n : ℕ) (l : TableLine) → Stands p b t →
    Lasts s p → (d : DidAt s p b e h n) → IsSeen s n p b l → l.own.transport ≡ transport_by (before d.row)
transport_before s p b t e h n l old alive d i = grind (arith, transport_at, before, was_at)

pub line_same : (row : Row) (l : TableLine) → l.own.transport ≡ transport_by (after row) →
    line_then row l.own.session l.own.channel l.peer.channel l ≡ l
line_same row l e = grind arith
