-- The carrier of an end acts for a connection that is open there: it takes no unit, and its session makes no move. It sends a
-- unit, or closes in class 2: the tables put the same message, and keep of what was in flight from it what was written.
-- For turns, calls and packets.
use Rattle.osi_machine.specs.Worlds as worlds
use Rattle.osi_between.specs.Messages as carrier
use Rattle.osi_pair.proofs.Vocabulary.{◌≡◌, ℕ, true, false, List, [], Some, None, sym, ap, subst, ◌∙◌, arith, append-nil, place_at}
use Rattle.osi_pair.proofs.Vocabulary.{value_at, Connection, State, put_here, put_other, Between, AreBetween, Carries, last_of, Acted}
use Rattle.osi_pair.proofs.Vocabulary.{becomes, side, progress_of, Progress, in_use, progress_in, connection_at, Line, Tables, seen_from}
use Rattle.osi_pair.proofs.Vocabulary.{stays, Message, with_same, with_other, with_count, none_there, with_carrier, End, TwoEnds, end_at}
use Rattle.osi_pair.proofs.Vocabulary.{other, side_in, is_caller, carriers_of, IsInOrder, Stands, HasJoined, Side, Left, Right, given_live}
use Rattle.osi_pair.proofs.Vocabulary.{Held, Terms, waiting_in, put_row, SessionState, ◌∷◌, refl, IsOctets, IsShortTsdu, sent, linked}
use Rattle.osi_pair.proofs.Vocabulary.{put_in, is_cut, leaves_use, puts, unit, put, Meaning, written, Holding, Link, under_way, Bool, take}
use Rattle.osi_pair.proofs.Vocabulary.{closed_with, shutting, by_two, bye, is_ended, Standing, Rows, EndLine as StackLine}
use Rattle.osi_pair.proofs.turn.what_an_acting_end_leaves_in_flight.{StandsOn, there, of_end}
use Rattle.osi_pair.proofs.turn.what_remains_when_a_unit_was_taken.{terms_at, order_of, was_at}
use Rattle.osi_pair.proofs.session.a_seat_is_its_progress_and_session.{transport_by, HasSession, seat_of_session, transport_at}
use Rattle.osi_pair.proofs.turn.a_turn_keeps_the_match.{IsSeen, seen, seen_twice, with_holding, Others}
use Rattle.osi_pair.proofs.turn.a_turn_keeps_the_match.{LinesAfter, Turned, turned_stands, seen_with, still_there, GoesTo, holding_here}
use Rattle.osi_pair.proofs.flight.what_is_in_flight_when_an_end_acts.{back_waits, out_keeps, Takes, out_cuts}
use Rattle.osi_pair.proofs.flight.whether_something_is_cut_off.{Lasts, cut_none}
use Rattle.osi_pair.proofs.flight.a_taken_packet_is_one_row.{CarrierLaws}
use Rattle.osi_pair.proofs.packet.a_unit_with_which_no_session_acts.{unless_broken, put_unless, spare_by, leave_by}
use Rattle.osi_pair.proofs.packet.a_packet_is_one_delivery_or_none.{both_carrier}
use Rattle.osi_machine.specs.Tables.{closed}
use Rattle.osi_pair.proofs.flight.what_a_closing_receiver_has_dropped.{shuts}

-- ---- the carrier

-- Its connection has the progress `g`; all other connections are unchanged.
pub record ActsOn (n : ℕ) (g : Progress) (old new : State) : Type 0 where
  pub is_caller : new.is_caller ≡ old.is_caller
  pub local : new.local ≡ old.local
  pub class : new.class ≡ old.class
  pub given : new.given ≡ old.given
  pub lasts : new.ended ≡ None
  pub connection : Connection
  pub live : new.live ≡ put_row n connection old.live
  pub progress : progress_in (Some connection) ≡ g

-- ---- the end

abbrev pub end_with : Side → State → TwoEnds → End
end_with s c p = with_carrier c (end_at s p).end

abbrev pub pair_with : Side → State → TwoEnds → TwoEnds
pair_with s c p = with_holding s (end_with s c p) (end_at s p).held p

-- the carrier of a side acts, of the two that the ends are
pub acted_by : (s : Side) (p : TwoEnds) (b : Between) (n : ℕ) (terms : Terms) (f : State → State) (put : List carrier.Message) →
    Acted terms (is_caller s) n (carriers_of p)
    (becomes (is_caller s) (f (side (is_caller s) (carriers_of p)).state) (side (is_caller s) (carriers_of p)).held (carriers_of p)) b []
    put → Acted terms (is_caller s) n (carriers_of p) (carriers_of (pair_with s (f (end_at s p).end.carrier) p)) b [] put
acted_by Left p b n terms f put a = a
acted_by Right p b n terms f put a = a

-- The end of a side has this carrier: what is known of it, after this was put.
pub record CarrierActs (s : Side) (p : TwoEnds) (b : Between) (n : ℕ) (g : Progress) (c : State) (put : List carrier.Message) : Type 0 where
  pub on : ActsOn n g (end_at s p).end.carrier c
  pub was : Connection
  pub at : value_at n (end_at s p).end.carrier.live ≡ Some was
  pub used : progress_in (Some was) ≡ in_use
  pub now : Between
  pub between : AreBetween (terms_at p) (carriers_of (pair_with s c p)) now
  pub carries : Carries (terms_at p) (is_caller s) n (carriers_of p) (carriers_of (pair_with s c p)) b now [] put

-- how far the connection was, and is
pub stood_in_use : (s : Side) (p : TwoEnds) (b : Between) (t : Tables) (n : ℕ) (g : Progress) (c : State) (put : List carrier.Message) →
    Stands p b t → Lasts s p → CarrierActs s p b n g c put → progress_of (place_at n (last_of (is_caller s) b)) ≡ in_use
stood_in_use s p b t n g c put old alive a =
    ap (λ (x : State). progress_of (place_at n x)) (was_at s p b t old alive)
    ∙ ap progress_of (given_live n (end_at s p).end.carrier a.was (order_of s p b t old alive).sound.orderly a.at) ∙ a.used

here_now : (n : ℕ) (g : Progress) (old : State) (e : End) (was : Connection) → ActsOn n g old e.carrier → value_at n old.live ≡ Some was →
    IsInOrder e → progress_of (place_at n e.carrier) ≡ g
here_now n g old e was on at order = grind (arith, given_live, put_here n on.connection was old.live at)

pub stands_now : (s : Side) (p : TwoEnds) (b : Between) (n : ℕ) (g : Progress) (c : State) (put : List carrier.Message) →
    (a : CarrierActs s p b n g c put) → IsInOrder (end_with s c p) → progress_of (place_at n (last_of (is_caller s) a.now)) ≡ g
stands_now s p b n g c put a order = search (arith, here_now n g (end_at s p).end.carrier (end_with s c p) a.was a.on a.at order)

-- ---- the connection

-- it is this far, and this is in flight from it
abbrev pub acted_line : Progress → List Message → Line → Line
acted_line g channel l = record {
  own = record { transport = transport_by g; session = l.own.session; channel = channel };
  peer = l.peer;
}

-- what is in flight from the end that acted
abbrev pub OutNow : Side → ℕ → TwoEnds → Between → TwoEnds → Between → SessionState → List Message → Type 0
OutNow s n p b new c x channel =
    GoesTo s (end_at (other s) p) n new c (progress_of (place_at n (last_of (is_caller (other s)) b))) x channel

seen_acts : (s : Side) (p : TwoEnds) (b : Between) (t : Tables) (n : ℕ) (g : Progress) (c : State) (put : List carrier.Message)
    (channel : List Message) (l : Line) → Stands p b t → Lasts s p → (a : CarrierActs s p b n g c put) → IsInOrder (end_with s c p) →
    IsSeen s n p b l → HasSession n (end_at s p).end.lines g l.own.session →
    OutNow s n p b (pair_with s c p) a.now l.peer.session.state channel → IsSeen s n (pair_with s c p) a.now (acted_line g channel l)
seen_acts s p b t n g c put channel l old alive a order i x out =
    let stood = stood_in_use s p b t n g c put old alive a in
    let two = pair_with s c p in
    seen_with s p a.now (end_with s c p) (end_at s p).held n (acted_line g channel l)
    (seat_of_session n (end_with s c p) (end_at s p).held g l.own.session channel order.sound.orderly
    (here_now n g (end_at s p).end.carrier (end_with s c p) a.was a.on a.at order) x) i.there
    (subst (λ (y : State). GoesTo s (end_at (other s) p) n two a.now (progress_of (place_at n y)) l.peer.session.state channel)
    (sym (still_there s b a.now a.carries.there)) out)
    (back_waits _ _ _ (place_at n (last_of (is_caller s) a.now)) _ _ (HasJoined n (end_at s p)) _ _ _ _ _
    (λ f. (let no_way : false ≡ true = sym (ap shuts stood) ∙ f in cc)) i.back alive (grind arith) (λ x held. held)
    (grind (arith, a.carries.came)))

-- ---- two ends

lines_stay : (s : Side) (n : ℕ) (l line : Line) (t : Tables) → connection_at n t.lines ≡ Some (seen_from (side_in s) l) →
    LinesAfter s n line t (stays t (side_in s) n line)
lines_stay s n l line t found = grind (arith, with_count, with_same, with_other)

-- An end that goes on has acted for a connection: of its carrier only this is used.
pub record Keeps (old new : State) : Type 0 where
  pub is_caller : new.is_caller ≡ old.is_caller
  pub local : new.local ≡ old.local
  pub class : new.class ≡ old.class
  pub given : new.given ≡ old.given
  pub lasts : new.ended ≡ None

pub turned_by : (s : Side) (p : TwoEnds) (b : Between) (t : Tables) (e : End) (h : Held) (c : Between) (n : ℕ) (l line : Line) →
    Stands p b t → Keeps (end_at s p).end.carrier e.carrier → AreBetween (terms_at p) (carriers_of (with_holding s e h p)) c →
    connection_at n t.lines ≡ Some (seen_from (side_in s) l) → IsSeen s n (with_holding s e h p) c line → Others s p b e h c n →
    last_of (is_caller (other s)) c ≡ last_of (is_caller (other s)) b → IsInOrder e → waiting_in e.lines ≡ [] →
    Turned s p b t e h c (stays t (side_in s) n line) n []
turned_by s p b t e h c n l line old k between found i o there order quiet =
    grind (arith, append-nil t.journal, lines_stay s n l line t found)

-- the line at a reference, seen from a side
pub seen_at : (s : Side) (p : TwoEnds) (b : Between) (t : Tables) (n : ℕ) (l : Line) → Stands p b t →
    connection_at n t.lines ≡ Some (seen_from (side_in s) l) → IsSeen s n p b l
seen_at s p b t n l old found =
    let h = there none_there n p b t (seen_from (side_in s) l) old found in
    subst (λ (x : Line). IsSeen s n p b x) (seen_twice (side_in s) l) (seen s n p b (seen_from (side_in s) l) h.is)

-- the session of an open connection
pub session_in_use : (s : Side) (p : TwoEnds) (b : Between) (t : Tables) (n : ℕ) (x : Connection) (l : Line) → Stands p b t → Lasts s p →
    value_at n (end_at s p).end.carrier.live ≡ Some x → progress_in (Some x) ≡ in_use → IsSeen s n p b l →
    HasSession n (end_at s p).end.lines in_use l.own.session
session_in_use s p b t n x l old alive at used i = grind arith

pub acted_stands : (s : Side) (p : TwoEnds) (b : Between) (t : Tables) (n : ℕ) (g : Progress) (c : State) (put : List carrier.Message)
    (channel : List Message) (l : Line) → Stands p b t → Lasts s p → (a : CarrierActs s p b n g c put) → IsInOrder (end_with s c p) →
    connection_at n t.lines ≡ Some (seen_from (side_in s) l) → HasSession n (end_at s p).end.lines g l.own.session →
    OutNow s n p b (pair_with s c p) a.now l.peer.session.state channel →
    StandsOn (pair_with s c p) (stays t (side_in s) n (acted_line g channel l))
acted_stands s p b t n g c put channel l old alive a order found x out =
    let line = acted_line g channel l in
    let i = seen_acts s p b t n g c put channel l old alive a order (seen_at s p b t n l old found) x out in
    record {
      now = a.now;
      stands = subst (λ (q : TwoEnds). Stands q a.now (stays t (side_in s) n line)) (grind (arith, with_holding, append-nil))
          (turned_stands s p b t (end_with s c p) (end_at s p).held a.now (stays t (side_in s) n line) n [] old alive
          (turned_by s p b t (end_with s c p) (end_at s p).held a.now n l line old
          (record { is_caller = a.on.is_caller; local = a.on.local; class = a.on.class; given = a.on.given; lasts = a.on.lasts }) a.between
          found i (grind (arith, put_other, still_there)) (still_there s b a.now a.carries.there) order (of_end s p b t old).quiet));
    }

-- ---- the carrier sends

pub sent_acts : (n : ℕ) (tsdu : List ℕ) (c : State) (peer : ℕ) (link : Link) → c.ended ≡ None →
    value_at n c.live ≡ Some (linked peer link) → ActsOn n in_use c (sent n tsdu c)
sent_acts n tsdu c peer link alive at = grind arith

abbrev pub SendActs : Side → TwoEnds → Between → ℕ → List ℕ → Type 0
SendActs s p b n tsdu = CarrierActs s p b n in_use (sent n tsdu (end_at s p).end.carrier) (carrier.message tsdu ∷ [])

pub send_acts : CarrierLaws → (s : Side) (p : TwoEnds) (b : Between) (t : Tables) (n peer : ℕ) (link : Link) (tsdu : List ℕ) →
    Stands p b t → Lasts s p → value_at n (end_at s p).end.carrier.live ≡ Some (linked peer link) → IsShortTsdu tsdu → IsOctets tsdu →
    SendActs s p b n tsdu
send_acts laws s p b t n peer link tsdu old alive at short octets =
    let c = both_carrier s p in
    let a = acted_by s p b n (terms_at p) (sent n tsdu) (carrier.message tsdu ∷ [])
    (laws.handed_in (terms_at p) (is_caller s) (carriers_of p) b n peer link tsdu old.between (ap (λ (x : State). x.ended) c ∙ alive)
    (ap (λ (x : State). value_at n x.live) c ∙ at) short octets) in
    search (arith, sent_acts)

-- ---- what is in flight from it

stays_open : (g h : Progress) → g ≡ in_use → h ≡ in_use → leaves_use g h ≡ false
stays_open g h e f = ap (λ (x : Progress). leaves_use x h) e ∙ ap (λ (x : Progress). leaves_use in_use x) f

out_sends : (s : Side) (p : TwoEnds) (b : Between) (t : Tables) (n : ℕ) (m : Meaning) (l : Line) → Stands p b t → Lasts s p →
    (a : SendActs s p b n (written m)) → IsInOrder (end_with s (sent n (written m) (end_at s p).end.carrier) p) → IsSeen s n p b l →
    OutNow s n p b (pair_with s (sent n (written m) (end_at s p).end.carrier) p) a.now l.peer.session.state
    (put t.broken (unit m ∷ []) l.own.channel)
out_sends s p b t n m l old alive a order i =
    let c = sent n (written m) (end_at s p).end.carrier in
    let place = place_at n (last_of (is_caller (other s)) b) in
    let none = a.carries.keeps (search (arith, stays_open, stood_in_use, stands_now)) in
    subst (λ (ms : List Message). GoesTo s (end_at (other s) p) n (pair_with s c p) a.now (progress_of place) l.peer.session.state ms)
    (sym (put_unless t.broken (unit m ∷ []) l.own.channel))
    (out_keeps _ place (is_cut (is_caller s) (carriers_of p)) _ (HasJoined n (end_at (other s) p)) _ l.own.channel
    (unless_broken t.broken (unit m ∷ [])) _ _ a.carries.stays a.carries.gone (put_in (carriers_of p) (carrier.message (written m) ∷ []))
    i.out (spare_by t.broken (is_cut (is_caller s) (carriers_of p)) (unit m ∷ []) (cut_none s p t.broken old.broken alive))
    (grind arith) (grind (arith, a.carries.before)) (grind (arith, a.carries.after)) none (grind arith))

-- ---- two ends

-- the end of the side, which is this, sends a unit, and is in order then
pub sends_from : CarrierLaws →
    (s : Side) (p : TwoEnds) (b : Between) (t : Tables) (n peer : ℕ) (link : Link) (m : Meaning) (l : Line) (y : Holding) → end_at s p ≡ y →
    Stands p b t → IsShortTsdu (written m) → IsOctets (written m) → connection_at n t.lines ≡ Some (seen_from (side_in s) l) →
    y.end.carrier.ended ≡ None → value_at n y.end.carrier.live ≡ Some (linked peer link) →
    IsInOrder (with_carrier (sent n (written m) y.end.carrier) y.end) →
    StandsOn (with_holding s (with_carrier (sent n (written m) y.end.carrier) y.end) y.held p)
    (stays t (side_in s) n (puts t.broken (unit m ∷ []) l))
sends_from laws s p b t n peer link m l y e old short octets found =
    subst (λ (y : Holding). y.end.carrier.ended ≡ None → value_at n y.end.carrier.live ≡ Some (linked peer link) →
    IsInOrder (with_carrier (sent n (written m) y.end.carrier) y.end) →
    StandsOn (with_holding s (with_carrier (sent n (written m) y.end.carrier) y.end) y.held p)
    (stays t (side_in s) n (puts t.broken (unit m ∷ []) l))) e (λ alive at order.
    let c = sent n (written m) (end_at s p).end.carrier in
    let a = send_acts laws s p b t n peer link (written m) old alive at short octets in
    let i = seen_at s p b t n l old found in
    let x = session_in_use s p b t n (linked peer link) l old alive at refl i in
    let open_now : l.own.transport ≡ worlds.linked =
    i.here.transport ∙ transport_at (place_at n (end_at s p).end.carrier) in_use
    (ap progress_of (given_live n (end_at s p).end.carrier (linked peer link) (order_of s p b t old alive).sound.orderly at)) in
    subst (λ (y : Line). StandsOn (pair_with s c p) (stays t (side_in s) n y)) (grind arith)
    (acted_stands s p b t n in_use c (carrier.message (written m) ∷ [])
    (put t.broken (unit m ∷ []) l.own.channel) l old alive a order found x (out_sends s p b t n m l old alive a order i)))

-- ---- the carrier closes

pub closed_acts : (n : ℕ) (c : State) (peer reason : ℕ) (link : Link) → c.ended ≡ None → value_at n c.live ≡ Some (linked peer link) →
    (closed_with n reason c).ended ≡ None → ActsOn n shutting c (closed_with n reason c)
closed_acts n c peer reason link alive at lasts = grind arith

abbrev pub CloseActs : Side → TwoEnds → Between → ℕ → Type 0
CloseActs s p b n = CarrierActs s p b n shutting (closed_with n 128 (end_at s p).end.carrier) (carrier.bye 128 ∷ [])

abbrev ActedBy : Bool → TwoEnds → TwoEnds → Between → ℕ → Terms → Type 0
ActedBy end p new b n x = Acted x end n (carriers_of p) (carriers_of new) b [] (carrier.bye 128 ∷ [])

pub close_acts : CarrierLaws → (s : Side) (p : TwoEnds) (b : Between) (t : Tables) (n peer : ℕ) (link : Link) → Stands p b t → Lasts s p →
    terms_at p ≡ by_two → value_at n (end_at s p).end.carrier.live ≡ Some (linked peer link) → CloseActs s p b n
close_acts laws s p b t n peer link old alive two at =
    let c = both_carrier s p in
    let closed = closed_with n 128 (end_at s p).end.carrier in
    let new = pair_with s closed p in
    let a = subst (ActedBy (is_caller s) p new b n) (sym two) (acted_by s p b n by_two (closed_with n 128) (carrier.bye 128 ∷ [])
    (laws.closed (is_caller s) (carriers_of p) b n peer link 128 (grind arith) (ap (λ (x : State). x.ended) c ∙ alive)
    (ap (λ (x : State). value_at n x.live) c ∙ at) (omega arith))) in
    let is = both_carrier s new ∙ ap (λ (y : Holding). y.end.carrier) (holding_here s (end_with s closed p) (end_at s p).held p) in
    let on = closed_acts n (end_at s p).end.carrier peer 128 link alive at (sym (ap (λ (x : State). x.ended) is) ∙ a.lasts) in
    search

-- ---- what is in flight from it

-- `keep` messages of it remain, followed by the close
record OutCloses (s : Side) (p : TwoEnds) (b : Between) (t : Tables) (n : ℕ) (l : Line) (a : CloseActs s p b n) : Type 0 where
  keep : ℕ
  way : OutNow s n p b (pair_with s (closed_with n 128 (end_at s p).end.carrier) p) a.now l.peer.session.state
      (put t.broken (bye 128 ∷ []) (take keep l.own.channel))

out_closes : (s : Side) (p : TwoEnds) (b : Between) (t : Tables) (n : ℕ) (l : Line) → Stands p b t → (a : CloseActs s p b n) →
    IsSeen s n p b l → Takes l.peer.session.state l.own.channel → OutCloses s p b t n l a
out_closes s p b t n l old a i takes =
    let two = pair_with s (closed_with n 128 (end_at s p).end.carrier) p in
    let cut = is_cut (is_caller s) (carriers_of two) in
    let x = out_cuts _ (place_at n (last_of (is_caller (other s)) b)) _ cut (HasJoined n (end_at (other s) p)) l.peer.session.state
    l.own.channel (unless_broken t.broken (bye 128 ∷ [])) (under_way (is_caller s) n (carriers_of p) b)
    (under_way (is_caller s) n (carriers_of two) a.now) a.carries.stays a.carries.gone (put_in (carriers_of p) (carrier.bye 128 ∷ [])) i.out
    takes (leave_by t.broken cut (bye 128) (λ begun. tt) (grind arith)) (grind (arith, a.carries.before)) (grind (arith, a.carries.after))
    (grind arith) in
    record { keep = x.keep; way = grind (arith, put_unless, x.way) }

-- ---- two ends

session_shuts : (n : ℕ) (lines : Rows StackLine) (x : Standing) → is_ended x.state.phase ≡ true → HasSession n lines in_use x →
    HasSession n lines shutting x
session_shuts n lines x ended h = grind arith

-- after a close of the end of a side, which is this, the ends match the tables, if this much is kept of what was in
-- flight
pub record ClosesOn (s : Side) (p : TwoEnds) (t : Tables) (n : ℕ) (l : Line) (y : Holding) : Type 0 where
  pub keep : ℕ
  pub on : StandsOn (with_holding s (with_carrier (closed_with n 128 y.end.carrier) y.end) y.held p)
      (stays t (side_in s) n (closed t.broken keep l))

-- the end of the side, which is this, closes a connection whose session has ended, and is in order then
pub closes_from : CarrierLaws → (s : Side) (p : TwoEnds) (b : Between) (t : Tables) (n peer : ℕ) (link : Link) (l : Line) (y : Holding) →
    end_at s p ≡ y → Stands p b t → terms_at p ≡ by_two → connection_at n t.lines ≡ Some (seen_from (side_in s) l) →
    Takes l.peer.session.state l.own.channel → is_ended l.own.session.state.phase ≡ true → y.end.carrier.ended ≡ None →
    value_at n y.end.carrier.live ≡ Some (linked peer link) → IsInOrder (with_carrier (closed_with n 128 y.end.carrier) y.end) →
    ClosesOn s p t n l y
closes_from laws s p b t n peer link l y e old two found takes over =
    subst (λ (y : Holding). y.end.carrier.ended ≡ None → value_at n y.end.carrier.live ≡ Some (linked peer link) →
    IsInOrder (with_carrier (closed_with n 128 y.end.carrier) y.end) → ClosesOn s p t n l y) e (λ alive at order.
    let c = closed_with n 128 (end_at s p).end.carrier in
    let a = close_acts laws s p b t n peer link old alive two at in
    let i = seen_at s p b t n l old found in
    let x = session_shuts n (end_at s p).end.lines l.own.session over
    (session_in_use s p b t n (linked peer link) l old alive at refl i) in
    let out = out_closes s p b t n l old a i takes in
    record {
      keep = out.keep;
      on = acted_stands s p b t n shutting c (carrier.bye 128 ∷ [])
          (put t.broken (bye 128 ∷ []) (take out.keep l.own.channel)) l old alive a order found x out.way;
    })

-- what it leaves of the carrier
pub close_is : CarrierLaws → (s : Side) (p : TwoEnds) (b : Between) (t : Tables) (n peer : ℕ) (link : Link) (y : Holding) → end_at s p ≡ y →
    Stands p b t → terms_at p ≡ by_two → y.end.carrier.ended ≡ None → value_at n y.end.carrier.live ≡ Some (linked peer link) →
    ActsOn n shutting y.end.carrier (closed_with n 128 y.end.carrier)
close_is laws s p b t n peer link y e old two =
    subst (λ (y : Holding). y.end.carrier.ended ≡ None → value_at n y.end.carrier.live ≡ Some (linked peer link) →
    ActsOn n shutting y.end.carrier (closed_with n 128 y.end.carrier)) e
    (λ alive at. (close_acts laws s p b t n peer link old alive two at).on)
