-- What the tables of whole connections and a pair of sessions have in common, and that a call and a delivery keep it.
-- For the law that a run of calls and answers is one of the machine of whole connections.
use Rattle.osi_blameless.proofs.accord.Vocabulary.{[], ap, append-nil, Bool, false, if◌then◌else◌, length, List, map, None, not, Ok, Option}
use Rattle.osi_blameless.proofs.accord.Vocabulary.{refl}
use Rattle.osi_blameless.proofs.accord.Vocabulary.{Some, subst, sym, take, true, ℕ, ◌++◌, ◌||◌, ◌∙◌, ◌∷◌, ◌≡◌, take-append_seam}
use Rattle.osi_blameless.proofs.accord.Vocabulary.{append_assoc}
use Rattle.osi_blameless.proofs.accord.Vocabulary.{AllByRecursion, Meaning, IsSendable, said_of, written, unit_silent, enacts, allowed}
use Rattle.osi_blameless.proofs.accord.Vocabulary.{drops_parts}
use Rattle.osi_blameless.proofs.accord.Vocabulary.{in_state, is_wait_transport, enacted, Outcome, respond, respond_unit, Verdict, verdict}
use Rattle.osi_blameless.proofs.accord.Vocabulary.{after_count, Count, goes, listens, Seen, Takes, without_tokens, Ended, State, calls}
use Rattle.osi_blameless.proofs.accord.Vocabulary.{closed_here}
use Rattle.osi_blameless.proofs.accord.Vocabulary.{Ending, Entry, HasNumber, is_given, one_or_none, Seat, step, Tables, gone, linked}
use Rattle.osi_blameless.proofs.accord.Vocabulary.{Message}
use Rattle.osi_blameless.proofs.accord.Vocabulary.{replied, Transport, unit, other, Direction, Left, Right, side_at, utters, channel_of}
use Rattle.osi_blameless.proofs.accord.Vocabulary.{has_taken}
use Rattle.osi_blameless.proofs.accord.Vocabulary.{Pair, session_of, end_if, IsAnyCall, uttered_at, arith, Step}
use Rattle.osi_blameless.proofs.accord.messages_of_a_run.{AsMessages, IsTaken, is_taken, all_and_one, written_more, kept_none, comes}
use Rattle.osi_blameless.proofs.accord.a_step_of_one_connection.{call_leaves, call_utters, called_seat, close_leaves, coming}
use Rattle.osi_blameless.proofs.accord.a_step_of_one_connection.{delivery_leaves}
use Rattle.osi_blameless.proofs.accord.a_step_of_one_connection.{delivery_utters, seat, tables, taking_at}

-- ---- a side of the tables, and a side of the pair

abbrev pub transport_if : (closed : Bool) → Transport
transport_if closed = if closed then gone else linked

-- it is in the same state, and the same is in flight from it; ahead are messages that are sent and whose TSDU is not yet in flight
pub record IsSeat (x : Seat) (e : Option Ending) (s : Seen) (channel : List (List ℕ)) (ahead : List Meaning) : Type 0 where
  pub state : x.session.state ≡ s.state
  pub joined : s.joined ≡ None
  pub units : List Meaning
  pub are : x.channel ≡ map unit units
  pub flight : channel ++ map written ahead ≡ map written units
  pub sendable : AllByRecursion IsSendable units
  pub transport : x.transport ≡ transport_if s.closed
  pub ends : e ≡ end_if s.closed

-- both sides, seen from one of them
pub record Meets (t : Tables) (d : Direction) (s : Seen) (channel : List (List ℕ)) (ahead : List Meaning) (s2 : Seen)
    (channel2 : List (List ℕ)) (others : List Meaning) : Type 0 where
  pub own : Seat
  pub peer : Seat
  pub own_end : Option Ending
  pub peer_end : Option Ending
  pub journal : List Entry
  pub is : t ≡ tables d own peer own_end peer_end journal
  pub here : IsSeat own own_end s channel ahead
  pub there : IsSeat peer peer_end s2 channel2 others

abbrev pub Stands : Tables → Pair → Direction → (ahead others : List Meaning) → Type 0
Stands t p d ahead others = Meets t d (session_of d p) (channel_of d p) ahead (session_of (other d) p) (channel_of (other d) p) others

pub turned_about : (t : Tables) (p : Pair) (d : Direction) (ahead others : List Meaning) → Stands t p d ahead others →
    Stands t p (other d) others ahead
turned_about t p d ahead others s = search arith

units_more : (ms ns : List Meaning) → map unit (ms ++ ns) ≡ map unit ms ++ map unit ns
units_more [] ns = refl
units_more (x ∷ ms) ns = ap (λ (y : List Message). unit x ∷ y) (units_more ms ns)

-- ---- a call

seat_calls : (x : Seat) (e : Option Ending) (s next : Seen) (channel : List (List ℕ)) (n : State) (m : Meaning) → IsSendable m →
    next ≡ goes s n → IsSeat x e s channel [] → IsSeat (called_seat x n m) e next channel (m ∷ [])
seat_calls x e s next channel n m send goes_on i =
    grind (
      arith,
      kept_none (drops_parts n.phase) s.joined i.joined,
      units_more i.units (m ∷ []),
      append-nil channel,
      written_more i.units m,
      all_and_one i.units m i.sendable send,
    )

-- a step that sends these messages, and what it leaves
pub record Moves (t : Tables) (d : Direction) (sent : List Meaning) (s : Seen) (channel : List (List ℕ)) (ahead : List Meaning) (s2 : Seen)
    (channel2 : List (List ℕ)) (others : List Meaning) : Type 0 where
  pub move : Step
  pub numbered : HasNumber move
  pub utters : uttered_at t move ≡ map (utters d) sent
  pub leaves : Meets (step t move) d s channel ahead s2 channel2 others

pub calls_on : (t : Tables) (d : Direction) (s next : Seen) (channel : List (List ℕ)) (s2 : Seen) (channel2 : List (List ℕ)) (m : Meaning) →
    IsAnyCall s m next → IsSendable m → Meets t d s channel [] s2 channel2 [] → Moves t d (m ∷ []) next channel (m ∷ []) s2 channel2 []
calls_on t d s next channel s2 channel2 m c send h =
    let given : is_given h.own.transport ≡ true = ap is_given h.here.transport ∙ (grind arith) in
    let allows = subst (λ (x : State). allowed x c.is.call ≡ Ok (record { next = c.is.state; sent = m })) (sym h.here.state) c.is.allows in
    let sent = call_utters d h.own h.peer h.own_end h.peer_end h.journal c.is.call c.is.state m given allows in
    let left = call_leaves d h.own h.peer h.own_end h.peer_end h.journal c.is.call c.is.state m given allows in
    record {
      move = calls (side_at d) 1 c.is.call;
      numbered = c.numbered;
      utters = ap (λ (x : Tables). uttered_at x (calls (side_at d) 1 c.is.call)) h.is ∙ sent;
      leaves = grind (
        arith,
        called_seat h.own c.is.state m,
        tables d h.own h.peer h.own_end h.peer_end h.journal,
        seat_calls h.own h.own_end s next channel c.is.state m send c.is.goes_on h.here,
      );
    }

-- ---- a delivery

-- it listens: it has not closed the transport connection
still_open : (closed waits : Bool) → not (closed || waits) ≡ true → closed ≡ false
still_open closed waits h = grind arith

replied_units : (r : Option Meaning) → replied r ≡ map unit (one_or_none r)
replied_units r = grind arith

all_and_more : (ms : List Meaning) (r : Option Meaning) → AllByRecursion IsSendable ms → AllByRecursion IsSendable (one_or_none r) →
    AllByRecursion IsSendable (ms ++ one_or_none r)
all_and_more ms r a b = grind (arith, append-nil, all_and_one)

written_and_more : (channel : List (List ℕ)) (ahead units : List Meaning) (r : Option Meaning) →
    channel ++ map written ahead ≡ map written units →
    channel ++ map written (ahead ++ one_or_none r) ≡ map written (units ++ one_or_none r)
written_and_more channel ahead units h e = grind (arith, append-nil, written_more, append_assoc)

-- this side after it took a message, which does not close the transport connection
seat_takes : (x : Seat) (e : Option Ending) (s : Seen) (channel : List (List ℕ)) (ahead : List Meaning) (u : Meaning) (c : Count) →
    IsTaken s u c → s.closed ≡ false → (respond_unit s.state u).closes ≡ false → AllByRecursion IsSendable (one_or_none c.reply) →
    IsSeat x e s channel ahead →
    IsSeat (seat linked (in_state x.session (respond_unit s.state u).next) (x.channel ++ replied (respond_unit s.state u).reply)) None
    (after_count s c) channel (ahead ++ one_or_none c.reply)
seat_takes x e s channel ahead u c did stays closes send i = search (arith, replied_units, units_more, written_and_more, all_and_more)

-- this side after it took a message, and closed the transport connection
seat_closes : (x : Seat) (e : Option Ending) (s : Seen) (channel : List (List ℕ)) (ahead : List Meaning) (u : Meaning) (c : Count) →
    IsTaken s u c → (respond_unit s.state u).closes ≡ true → c.reply ≡ None →
    without_tokens Ended (respond_unit s.state u).next ≡ (respond_unit s.state u).next → IsSeat x e s channel ahead →
    IsSeat (seat gone (in_state x.session (without_tokens Ended (respond_unit s.state u).next))
    (take (length x.channel) (x.channel ++ replied (respond_unit s.state u).reply))) (Some closed_here)
    (after_count s c) channel (ahead ++ one_or_none c.reply)
seat_closes x e s channel ahead u c did closes none last i = search (arith, take-append_seam, append-nil)

-- what closes the transport connection leaves the session ended
abbrev IsOverIf : Outcome → Type 0
IsOverIf o = o.closes ≡ true → without_tokens Ended o.next ≡ o.next

enacted_over : (s : State) (u : Meaning) (v : Verdict) → IsOverIf (enacted s u v)
enacted_over s u v = grind arith

unit_over : (s : State) (u : Meaning) → IsOverIf (respond_unit s u)
unit_over s u = subst IsOverIf (sym (enacts s u)) (enacted_over s u (verdict s u))

took : (t : Tables) (d : Direction) (s : Seen) (channel : List (List ℕ)) (ahead : List Meaning) (s2 : Seen) (rest : List (List ℕ))
    (others : List Meaning) (c : Count) (u : Meaning) (us : List Meaning) (x y : Seat) (e b : Option Ending) (j : List Entry) →
    t ≡ coming d x.session x.channel y u (map unit us) b j → respond x.session.state (said_of u) ≡ respond_unit s.state u →
    IsTaken s u c → s.closed ≡ false → AllByRecursion IsSendable (one_or_none c.reply) → IsSeat x e s channel ahead →
    IsSeat (seat y.transport y.session (map unit us)) b s2 rest others → (z : Bool) → (respond_unit s.state u).closes ≡ z →
    Moves t d (one_or_none c.reply) (after_count s c) channel (ahead ++ one_or_none c.reply) s2 rest others
took t d s channel ahead s2 rest others c u us x y e b j at is did stays send i f false closes = record {
  move = taking_at d x.channel;
  numbered = tt;
  utters = grind (arith, taking_at d x.channel, delivery_utters d x.session x.channel y u (map unit us) b j (respond_unit s.state u) is);
  leaves = grind (
    arith,
    seat y.transport y.session (map unit us),
    coming d x.session x.channel y u (map unit us) b j,
    taking_at d x.channel,
    delivery_leaves d x.session x.channel y u (map unit us) b j (respond_unit s.state u) is closes,
    seat_takes x e s channel ahead u c did stays closes send i,
  );
}
took t d s channel ahead s2 rest others c u us x y e b j at is did stays send i f true closes = record {
  move = taking_at d x.channel;
  numbered = tt;
  utters = grind (arith, taking_at d x.channel, delivery_utters d x.session x.channel y u (map unit us) b j (respond_unit s.state u) is);
  leaves = record {
    own = seat gone (in_state x.session (without_tokens Ended (respond_unit s.state u).next))
        (take (length x.channel) (x.channel ++ replied (respond_unit s.state u).reply));
    peer = seat y.transport y.session (map unit us);
    own_end = Some closed_here;
    peer_end = b;
    journal = (step (coming d x.session x.channel y u (map unit us) b j) (taking_at d x.channel)).journal;
    is = grind (arith, taking_at, close_leaves);
    here = seat_closes x e s channel ahead u c did closes (did.reply ∙ unit_silent s.state u closes) (unit_over s.state u closes) i;
    there = f;
  };
}

takes_on : AsMessages → (t : Tables) (d : Direction) (s : Seen) (channel : List (List ℕ)) (ahead : List Meaning) (s2 : Seen)
    (tsdu : List ℕ) (rest : List (List ℕ)) (others : List Meaning) (c : Count) → listens s ≡ true → Takes s tsdu c →
    AllByRecursion IsSendable (one_or_none c.reply) → Meets t d s channel ahead s2 (tsdu ∷ rest) others →
    Moves t d (one_or_none c.reply) (after_count s c) channel (ahead ++ one_or_none c.reply) s2 rest others
takes_on k t d s channel ahead s2 tsdu rest others c hears taken send h =
    let m = comes h.there.units tsdu (rest ++ map written others) h.there.flight in
    let all : AllByRecursion IsSendable (m.u ∷ m.us) = subst (AllByRecursion IsSendable) m.is h.there.sendable in
    let did = is_taken k s m.u c all.0 h.here.joined (subst (λ (x : List ℕ). Takes s x c) (sym m.first) taken) in
    let stays = still_open s.closed (is_wait_transport s.state.phase) hears in
    let own : h.own ≡ seat linked h.own.session h.own.channel =
    ap (λ (x : Transport). seat x h.own.session h.own.channel) (h.here.transport ∙ ap transport_if stays) in
    let peer : h.peer ≡ seat h.peer.transport h.peer.session (unit m.u ∷ map unit m.us) =
    ap (λ (x : List Message). seat h.peer.transport h.peer.session x) (h.there.are ∙ ap (map unit) m.is) in
    let none : h.own_end ≡ None = h.here.ends ∙ ap end_if stays in
    took t d s channel ahead s2 rest others c m.u m.us h.own h.peer h.own_end h.peer_end h.journal
    (h.is ∙ (λ i. tables d (own i) (peer i) (none i) h.peer_end h.journal))
    (k.alone h.own.session.state m.u ∙ ap (λ (x : State). respond_unit x m.u) h.here.state) did stays send h.here
    (grind arith) (respond_unit s.state m.u).closes refl

-- one that is not answered
takes_quiet : AsMessages → (t : Tables) (d : Direction) (s : Seen) (channel : List (List ℕ)) (ahead : List Meaning) (s2 : Seen)
    (tsdu : List ℕ) (rest : List (List ℕ)) (others : List Meaning) (c : Count) → listens s ≡ true → Takes s tsdu c → c.reply ≡ None →
    Meets t d s channel ahead s2 (tsdu ∷ rest) others → Moves t d [] (after_count s c) channel ahead s2 rest others
takes_quiet k t d s channel ahead s2 tsdu rest others c hears taken quiet h =
    subst (λ (x : List Meaning). Moves t d [] (after_count s c) channel x s2 rest others) (append-nil ahead)
    (subst (λ (r : Option Meaning). Moves t d (one_or_none r) (after_count s c) channel (ahead ++ one_or_none r) s2 rest others) quiet
    (takes_on k t d s channel ahead s2 tsdu rest others c hears taken
    (subst (λ (r : Option Meaning). AllByRecursion IsSendable (one_or_none r)) (sym quiet) tt) h))

-- one that is answered
takes_answering : AsMessages → (t : Tables) (d : Direction) (s : Seen) (channel : List (List ℕ)) (s2 : Seen)
    (tsdu : List ℕ) (rest : List (List ℕ)) (others : List Meaning) (c : Count) (m : Meaning) → listens s ≡ true → Takes s tsdu c →
    c.reply ≡ Some m → IsSendable m → Meets t d s channel [] s2 (tsdu ∷ rest) others →
    Moves t d (m ∷ []) (after_count s c) channel (m ∷ []) s2 rest others
takes_answering k t d s channel s2 tsdu rest others c m hears taken replies send h =
    subst (λ (r : Option Meaning). Moves t d (one_or_none r) (after_count s c) channel (one_or_none r) s2 rest others) replies
    (takes_on k t d s channel [] s2 tsdu rest others c hears taken
    (subst (λ (r : Option Meaning). AllByRecursion IsSendable (one_or_none r)) (sym replies) (send, tt)) h)

abbrev pub MovesTo : Tables → Direction → List Meaning → Pair → (ahead others : List Meaning) → Type 0
MovesTo t d sent p ahead others =
    Moves t d sent (session_of d p) (channel_of d p) ahead (session_of (other d) p) (channel_of (other d) p) others

-- with these TSDUs in flight to it
coming_to : (t : Tables) (p : Pair) (d : Direction) (tsdu : List ℕ) (rest : List (List ℕ)) (ahead others : List Meaning) →
    channel_of (other d) p ≡ tsdu ∷ rest → Stands t p d ahead others →
    Meets t d (session_of d p) (channel_of d p) ahead (session_of (other d) p) (tsdu ∷ rest) others
coming_to t p d tsdu rest ahead others there s = grind arith

pub quiet_at : AsMessages → (t : Tables) (p : Pair) (d : Direction) (c : Count) (tsdu : List ℕ) (rest : List (List ℕ))
    (ahead others : List Meaning) → channel_of (other d) p ≡ tsdu ∷ rest → listens (session_of d p) ≡ true → Takes (session_of d p) tsdu c →
    c.reply ≡ None → Stands t p d ahead others → MovesTo t d [] (has_taken d c rest p) ahead others
quiet_at k t p Left c tsdu rest ahead others there hears taken quiet s =
    search (arith, takes_quiet, coming_to t p Left tsdu rest ahead others there s)
quiet_at k t p Right c tsdu rest ahead others there hears taken quiet s =
    search (arith, takes_quiet, coming_to t p Right tsdu rest ahead others there s)

pub answering_at : AsMessages → (t : Tables) (p : Pair) (d : Direction) (c : Count) (tsdu : List ℕ) (rest : List (List ℕ)) (m : Meaning) →
    channel_of (other d) p ≡ tsdu ∷ rest → listens (session_of d p) ≡ true → Takes (session_of d p) tsdu c → c.reply ≡ Some m →
    IsSendable m → Stands t p d [] [] → MovesTo t d (m ∷ []) (has_taken d c rest p) (m ∷ []) []
answering_at k t p Left c tsdu rest m there hears taken replies send s =
    search (arith, takes_answering, coming_to t p Left tsdu rest [] [] there s)
answering_at k t p Right c tsdu rest m there hears taken replies send s =
    search (arith, takes_answering, coming_to t p Right tsdu rest [] [] there s)
