-- The laws of two joined carriers in class 2, in the form in which the invariant uses them.
-- For class 0 and the invariant.
use Rattle.osi_between.proofs.Vocabulary.{◌≡◌, ℕ, ◌+◌, ◌<◌, Bool, true, List, [], ◌∷◌, ◌++◌, Option, Some, None, ap, ◌∙◌, arith, IsOctets}
use Rattle.osi_between.proofs.Vocabulary.{Value, IsShortTsdu, Standing, may_connect, asks, sent, closed_with, place_at, Happening, react}
use Rattle.osi_between.proofs.Vocabulary.{value_at, linked, State, reference_of, answers_in, IsTsap, JoinedFrom, Did, Message, ask, message}
use Rattle.osi_between.proofs.Vocabulary.{bye, Terms, by_two, append_cancel_right, sym, subst, AreFor, BringsTo}
use Rattle.osi_between.proofs.between.an_acting_end_keeps_the_invariant.{JoinedAt, Does}
use Rattle.osi_between.proofs.joined.requests_beginnings_and_nothing_in_flight.{caller_asks}
use Rattle.osi_between.proofs.joined.joined_carriers_stay_joined.{seen, takes_one, sends, closes, within_given}
use Rattle.osi_between.proofs.joined.feeding_keeps_carriers_joined.{with_queues, queued}

-- what is asked of two carriers, whatever they agree on
pub record Provides (terms : Terms) : Type 0 where
  pub takes_one : (end : Bool) (this other : State) (going coming rest : List Value) (unit : Value) →
      JoinedAt end terms this other going coming → coming ≡ unit ∷ rest →
      Does terms end (reference_of unit) this other (react unit this) going coming rest (unit ∷ [])
      (answers_in terms (place_at (reference_of unit) this) unit)
  pub connects : (this other : State) (going coming : List Value) (calling called : Option (List ℕ)) →
      JoinedAt true terms this other going coming → may_connect this ≡ None → IsTsap calling → IsTsap called →
      Does terms true (this.given + 1) this other (asks calling called this) going coming coming [] (ask ∷ [])
  pub hands_in : (end : Bool) (this other : State) (going coming : List Value) (n peer : ℕ) (link : Standing) (tsdu : List ℕ) →
      JoinedAt end terms this other going coming → value_at n this.live ≡ Some (linked peer link) → IsShortTsdu tsdu → IsOctets tsdu →
      Does terms end n this other (sent n tsdu this) going coming coming [] (message tsdu ∷ [])
  pub queued : (end : Bool) (this other : State) (o : List ℕ) (e : List Happening) (going coming : List Value) →
      JoinedAt end terms this other going coming → JoinedAt end terms (with_queues o e this) other going coming

-- ---- class 2

to_from : (end : Bool) (this other : State) (going coming : List Value) → JoinedAt end by_two this other going coming →
    JoinedFrom end this other going coming
to_from end this other going coming j = grind arith

to_at : (end : Bool) (this other : State) (going coming : List Value) → JoinedFrom end this other going coming →
    JoinedAt end by_two this other going coming
to_at end this other going coming j = grind arith

does_two : (end : Bool) (n : ℕ) (this other next : State) (going coming rest taken : List Value) (put : List Message) →
    coming ≡ taken ++ rest → Did end n this other next going coming rest put → Does by_two end n this other next going coming rest taken put
does_two end n this other next going coming rest taken put cut d =
    let a = d.acts in
    let w = a.writes in
    let same : a.takes.units ≡ taken = append_cancel_right a.takes.units taken rest (sym a.takes.cut ∙ cut) in
    record {
      steps = record {
        units = w.units;
        arrived = a.takes.arrived;
        stays = w.stays;
        lost = w.lost;
        sendable = w.sendable;
        outgoing = w.outgoing;
        told = a.takes.told;
        cut = cut;
        all_for = subst (λ (l : List Value). AreFor n l) same a.takes.all_for;
        written_for = w.all_for;
        before = w.before;
        after = rw w.written at w.after;
        brings = subst (λ (l : List Value). BringsTo true (place_at n this) (place_at n next) l a.takes.arrived put) same a.takes.brings;
        others_stay = a.others.places;
        given = a.given;
        class = a.class;
        local = a.local;
        keeps = w.keeps;
        lasts = (seen end next other d.behind rest d.joined).lasts;
      };
      joined = grind (arith, to_at);
    }

-- so its state is that of a connection whose peer's number is its own
pub linked_own : (end : Bool) (this other : State) (going coming : List Value) (n peer : ℕ) (link : Standing) →
    JoinedFrom end this other going coming → value_at n this.live ≡ Some (linked peer link) → value_at n this.live ≡ Some (linked n link)
linked_own end this other going coming n peer link j at =
    let v = seen end this other going coming j in
    let st = v.stands n (within_given n this (linked peer link) v.orderly at).0 in
    at ∙ ap (λ (q : ℕ). Some (linked q link))
    (grind arith)

sends_two : (end : Bool) (this other : State) (going coming : List Value) (n peer : ℕ) (link : Standing) (tsdu : List ℕ) →
    JoinedAt end by_two this other going coming → value_at n this.live ≡ Some (linked peer link) → IsShortTsdu tsdu → IsOctets tsdu →
    Does by_two end n this other (sent n tsdu this) going coming coming [] (message tsdu ∷ [])
sends_two end this other going coming n peer link tsdu j at short are =
    let k = to_from end this other going coming j in
    search (arith, does_two, sends, linked_own end this other going coming n peer link k at)

pub closes_two : (end : Bool) (this other : State) (going coming : List Value) (n peer : ℕ) (link : Standing) (reason : ℕ) →
    JoinedAt end by_two this other going coming → value_at n this.live ≡ Some (linked peer link) → reason < 256 →
    Does by_two end n this other (closed_with n reason this) going coming coming [] (bye reason ∷ [])
closes_two end this other going coming n peer link reason j at small =
    let k = to_from end this other going coming j in
    search (arith, does_two, closes, linked_own end this other going coming n peer link k at)

pub provides_two : Provides by_two
provides_two = search (arith, does_two, takes_one, to_from, caller_asks, sends_two, to_at, queued)
