-- Feeding octets that the other end wrote keeps two carriers joined.
-- For joined carriers, class 0, the invariant and the laws.
use Rattle.osi_between.proofs.Vocabulary.{◌≡◌, ℕ, Bool, true, false, not, ◌≤◌, List, [], ◌∷◌, ◌++◌, length, take, refl, arith, AreLinked}
use Rattle.osi_between.proofs.Vocabulary.{with_state, with_events, TakesFor, WasFed, Fed, Value, Local, fresh_state, AreComing, place_at}
use Rattle.osi_between.proofs.Vocabulary.{Happening, Carrying, Feeds, react, State, orderly_same, reference_of, TakesUnits, answers_at}
use Rattle.osi_between.proofs.Vocabulary.{StandsBetween, AreJoined, JoinedFrom, ActsFor, Did, Message}
use Rattle.osi_between.proofs.way.units_are_taken_in_turn.{feeds_some, more_coming}
use Rattle.osi_between.proofs.joined.requests_beginnings_and_nothing_in_flight.{fresh_joined}
use Rattle.osi_between.proofs.joined.joined_carriers_stay_joined.{seen, takes_one}

-- ---- what is to be handed over and reported does not matter

abbrev pub with_queues : List ℕ → List Happening → State → State
with_queues outgoing events s = record s { outgoing = outgoing; events = events }

stands_queues : (n : ℕ) (s r : State) (o p : List ℕ) (e f : List Happening) (going coming : List Value) →
    StandsBetween true n s r going coming → StandsBetween true n (with_queues o e s) (with_queues p f r) going coming
stands_queues n s r o p e f going coming h = grind arith

joined_queues : (s r : State) (o p : List ℕ) (e f : List Happening) (going coming : List Value) → AreJoined s r going coming →
    AreJoined (with_queues o e s) (with_queues p f r) going coming
joined_queues s r o p e f going coming j = grind (arith, orderly_same, stands_queues)

pub queued : (end : Bool) (this other : State) (o : List ℕ) (e : List Happening) (going coming : List Value) →
    JoinedFrom end this other going coming → JoinedFrom end (with_queues o e this) other going coming
queued end this other o e going coming j = search (arith, joined_queues)

-- seen from the other end
pub joined_turned : (end : Bool) (this other : State) (going coming : List Value) → JoinedFrom end this other going coming →
    JoinedFrom (not end) other this coming going
joined_turned end this other going coming j = grind arith

joined_back : (end : Bool) (this other : State) (going coming : List Value) → JoinedFrom (not end) other this coming going →
    JoinedFrom end this other going coming
joined_back end this other going coming j = grind arith

-- ---- units one after the other

-- an end took units, and the octets that it wrote are those of the units after
record Took (end : Bool) (this other next : State) (going coming done left : List Value) (held : List ℕ) : Type 0 where
  behind : List Value
  takes : TakesFor this other going coming done next behind left
  joined : JoinedFrom end next other behind left
  octets : AreComing held next.outgoing behind

-- the octets after an action are those of the units after it
behind_octets : (n : ℕ) (this other next : State) (going coming behind rest : List Value) (put : List Message) (held : List ℕ) →
    AreComing held this.outgoing going → ActsFor n this other next going coming behind rest put → AreComing held next.outgoing behind
behind_octets n this other next going coming behind rest put held c a =
    let w = a.writes in
    grind (arith, more_coming held this.outgoing going w.units c w.sendable)

took : (end : Bool) (done : List Value) (this other next : State) (going coming left : List Value) (held : List ℕ) →
    JoinedFrom end this other going coming → AreComing held this.outgoing going → coming ≡ done ++ left → TakesUnits this done next →
    Took end this other next going coming done left held
took end [] this other next going coming left held j c cut takes = grind arith
took end (u ∷ us) this other next going coming left held j c cut takes =
    let n = reference_of u in
    let put = answers_at (place_at n this) u in
    let did = takes_one end this other going coming (us ++ left) u j cut in
    let octets = behind_octets n this other (react u this) going coming did.behind (us ++ left) put held c did.acts in
    let more = took end us (react u this) other next did.behind (us ++ left) left held did.joined octets refl takes.1 in
    record { behind = more.behind; takes = (did.behind, us ++ left, cut, did.acts, more.takes); joined = more.joined; octets = more.octets }

-- ---- feeding

pub was_fed : (end : Bool) (this other next : Carrying) (going coming : List Value) (k : ℕ) (fed : Fed) →
    AreLinked end this other going coming → k ≤ length other.state.outgoing → Feeds this (take k other.state.outgoing) fed next →
    WasFed end this other next going coming fed.used
was_fed end this other next going coming k fed l few h =
    let t = feeds_some this next other.state.outgoing coming k fed few l.coming_octets
    (seen end this.state other.state going coming l.joined).lasts h in
    let units = took end t.done this.state other.state t.reached going coming t.left other.held.octets l.joined l.going_octets t.parts
    t.taken in
    record {
      done = t.done;
      left = t.left;
      behind = units.behind;
      reached = t.reached;
      takes = units.takes;
      linked = grind (arith, joined_back, queued, joined_turned, seen);
    }

-- ---- calls, and events that are reported

pub was_called : (end : Bool) (this other : Carrying) (next : State) (n : ℕ) (going coming : List Value) (put : List Message) →
    AreLinked end this other going coming → (d : Did end n this.state other.state next going coming coming put) →
    AreLinked end (with_state next this) other d.behind coming
was_called end this other next n going coming put l d = search (arith, behind_octets)

pub tells : (end : Bool) (this other : Carrying) (events : List Happening) (going coming : List Value) →
    AreLinked end this other going coming → AreLinked end (with_events events this) other going coming
tells end this other events going coming l = grind (arith, queued)

pub turned : (end : Bool) (this other : Carrying) (going coming : List Value) → AreLinked end this other going coming →
    AreLinked (not end) other this coming going
turned end this other going coming l = grind (arith, joined_turned)

pub fresh_linked : (caller called : Carrying) (a b : Local) → a.class2 ≡ true → b.class2 ≡ true → caller.state ≡ fresh_state true a →
    called.state ≡ fresh_state false b → caller.held.octets ≡ [] → called.held.octets ≡ [] → AreLinked true caller called [] []
fresh_linked caller called a b x y is is_called none none_called = grind (arith, fresh_joined)
