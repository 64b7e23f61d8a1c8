-- What an end of two carriers that agree on class 0 does for their one connection, seen from either end.
-- For class 0 and the invariant.
use Rattle.osi_between.specs.Zero.{unasked, asking, accepting, talking, answer_of, at_end, from_end, given_in, class_in, IsAccepted, Holds}
use Rattle.osi_between.proofs.Vocabulary.{◌≡◌, ◌≢◌, ℕ, ◌+◌, true, false, not, List, [], ◌∷◌, ◌++◌, length, map, take, Option, Some, None}
use Rattle.osi_between.proofs.Vocabulary.{refl, sym, ap, subst, ◌∙◌, arith, nat_lt, append-nil, append_cancel_left, IsOctets, Value}
use Rattle.osi_between.proofs.Vocabulary.{Connect, request, confirm, LinkPair, swapped, opened_pair, IsShortTsdu, all_given, Standing}
use Rattle.osi_between.proofs.Vocabulary.{Given, unit_of, with_tsdu, accept, selected_by, selected_size, Zero, Class, Local, Bool, asks}
use Rattle.osi_between.proofs.Vocabulary.{sent, Place, never, was_given, place_at, connection_in, proposal, opened_link, agreed_size}
use Rattle.osi_between.proofs.Vocabulary.{pumped, react, settles, handed_out, accepts, put, asked, linked, State, packets, react_quiet}
use Rattle.osi_between.proofs.Vocabulary.{has_room, AreFor, IsTsap, BringsTo, under_way_for, addressed, Message, ask, agree, message}
use Rattle.osi_between.proofs.Vocabulary.{messages_to, AreOpen, after_take, after_send, by_zero, terms_of, IsProposed, HasOne}
use Rattle.osi_between.proofs.Vocabulary.{drained_leaves, ZeroCourse, Changes, Happening, tsdu, AllByRecursion, IsSendable, flat_map}
use Rattle.osi_between.proofs.Vocabulary.{told_opening, references_for, class_behind_all, called_local, not_yet, awaiting, inl, value_at}
use Rattle.osi_between.proofs.Vocabulary.{if◌then◌else◌, opens, HasGivenInRange, in_use}
use Rattle.osi_between.proofs.between.an_acting_end_keeps_the_invariant.{Does, JoinedAt, Each}
use Rattle.osi_between.proofs.unit.the_units_of_one_connection.{units_same, all_rest, all_sendable}
use Rattle.osi_between.proofs.unit.what_a_taken_unit_means.{brings_none, brings_given}
use Rattle.osi_between.proofs.meeting.how_a_connection_changes_at_each_end.{idle_all}
use Rattle.osi_between.proofs.meeting.what_is_in_flight_for_a_connection.{told_tsdus, talking_carries}
use Rattle.osi_between.proofs.meeting.a_connection_after_each_unit_and_call.{addressed_join, open_mirror}
use Rattle.osi_between.proofs.link.a_request_before_a_class_is_agreed.{proposal_sendable, source_is, answer_zero_sendable, opens_zero}
use Rattle.osi_between.proofs.link.a_call_is_turns_of_two_links.{left_takes, sends_passes}
use Rattle.osi_between.proofs.meeting.what_a_unit_or_call_changes.{settled_changes, send_changes}

-- ---- the one place

pub one_place : (s : State) (p : Place) → HasOne s p → place_at 1 s ≡ p
one_place s p h = grind (arith, nat_lt)

other_place : (s : State) (p : Place) (q : ℕ) → HasOne s p → q ≢ 1 → place_at q s ≡ (if nat_lt 0 q then never else was_given None)
other_place s p q h apart = grind (arith, nat_lt)

-- the connection changed
one_changed : (s t : State) (x y : Standing) (units : List Value) (told : List Happening) → HasOne s (was_given (Some (linked 1 x))) →
    Changes 1 s t (Some (linked 1 y)) units told → HasOne t (was_given (Some (linked 1 y)))
one_changed s t x y units told h c = grind arith

-- all units are for it
pub zero_for : (gs : List Given) → AreFor 1 (addressed 1 gs)
zero_for [] = tt
zero_for (x ∷ gs) = grind (arith, zero_for gs)

pub zero_units : (end : Bool) (caller called : Local) (g : ZeroCourse) → Holds caller called g → AreFor 1 (from_end end called g)
zero_units true caller called (asking c) h = (source_is 1 caller c h, tt)
zero_units false caller called (accepting c p) h = (refl, zero_for p.leftward)
zero_units end caller called (talking p) h = grind (arith, zero_for)
zero_units end caller called g h = tt

-- what is in flight, by places
pub under_is : (s r : State) (p q : Place) (going us : List Value) → place_at 1 s ≡ p → place_at 1 r ≡ q → going ≡ us → AreFor 1 us →
    under_way_for 1 s r going ≡ messages_to (connection_in p) us (connection_in q)
under_is s r p q going us a b c all = grind (arith, units_same)

-- ---- the two, seen from an end

pub record AreZero (end : Bool) (this other : State) (going coming : List Value) (g : ZeroCourse) : Type 0 where
  pub role : this.is_caller ≡ end
  pub role_there : other.is_caller ≡ not end
  pub terms : terms_of (called_local (not end) this other) (called_local end this other) ≡ by_zero
  pub here : HasOne this (at_end end g)
  pub there : HasOne other (at_end (not end) g)
  pub out : going ≡ from_end end (called_local end this other) g
  pub back : coming ≡ from_end (not end) (called_local end this other) g
  pub holds : Holds (called_local (not end) this other) (called_local end this other) g

abbrev pub course_of : (end : Bool) (this other : State) (going coming : List Value) → JoinedAt end by_zero this other going coming →
    ZeroCourse
course_of true this other going coming j = j.course
course_of false this other going coming j = j.course

pub are_zero : (end : Bool) (this other : State) (going coming : List Value) (j : JoinedAt end by_zero this other going coming) →
    AreZero end this other going coming (course_of end this other going coming j)
are_zero end this other going coming j = grind arith

joined_zero : (end : Bool) (this other : State) (going coming : List Value) (g : ZeroCourse) → AreZero end this other going coming g →
    JoinedAt end by_zero this other going coming
joined_zero true this other going coming g h = search
joined_zero false this other going coming g h = search

-- ---- an end acts

-- the messages in flight from an end
abbrev pub messages_from : Bool → Local → ZeroCourse → List Message
messages_from end called g = messages_to (connection_in (at_end end g)) (from_end end called g) (connection_in (at_end (not end) g))

-- What an end (`this`, then `next`) wrote and reported.
pub record Wrote (this next : State) (units : List Value) (told : List Happening) : Type 0 where
  pub outgoing : next.outgoing ≡ this.outgoing ++ packets units
  pub events : next.events ≡ this.events ++ told
  pub local : next.local ≡ this.local
  pub is_caller : next.is_caller ≡ this.is_caller

-- An end acted for the connection, which was in the state `old`: these units in flight to it were taken, and `put`
-- follows what is in flight from it.
pub record ZeroMoves (end : Bool) (old : ZeroCourse) (this other next : State) (taken : List Value) (put : List Message) : Type 0 where
  -- the new state; the other end is unchanged
  pub new : ZeroCourse
  pub here : HasOne next (at_end end new)
  pub there : at_end (not end) new ≡ at_end (not end) old
  pub holds : Holds (called_local (not end) next other) (called_local end next other) new
  -- the units that were written, the messages that arrived and were reported, and the units in flight
  pub units : List Value
  pub arrived : List Message
  pub wrote : Wrote this next units (flat_map (told_opening 1 (at_end end old)) arrived)
  pub sendable : AllByRecursion IsSendable units
  pub written_for : AreFor 1 units
  pub all_for : AreFor 1 taken
  pub out : from_end end (called_local end this other) new ≡ from_end end (called_local end this other) old ++ units
  pub back : from_end (not end) (called_local end this other) old ≡ taken ++ from_end (not end) (called_local end this other) new
  -- in messages: what is in flight, and what the units mean
  pub sent : messages_from end (called_local end this other) new ≡ messages_from end (called_local end this other) old ++ put
  pub brings : BringsTo true (at_end end old) (at_end end new) taken arrived put
  pub given : given_in (at_end end new) ≡ given_in (at_end end old) + references_for true arrived put
  pub class : class_in (at_end end new) ≡ class_behind_all (Some Zero) (class_in (at_end end old)) arrived

pub does_zero : (end : Bool) (this other next : State) (going coming rest taken : List Value) (put : List Message) (g : ZeroCourse) →
    AreZero end this other going coming g → coming ≡ taken ++ rest → ZeroMoves end g this other next taken put →
    Does by_zero end 1 this other next going coming rest taken put
does_zero end this other next going coming rest taken put g h cut mv =
    let called = called_local end this other in
    let caller = called_local (not end) this other in
    let here = one_place this (at_end end g) h.here in
    let there = one_place other (at_end (not end) g) h.there in
    let now = one_place next (at_end end mv.new) mv.here in
    let local : called_local end next other ≡ called = grind arith in
    let local_there : called_local (not end) next other ≡ caller = grind arith in
    let out : going ++ mv.units ≡ from_end end called mv.new = ap (λ (l : List Value). l ++ mv.units) h.out ∙ sym mv.out in
    let was = under_is this other (at_end end g) (at_end (not end) g) going (from_end end called g) here there h.out
    (zero_units end caller called g h.holds) in
    let is = under_is next other (at_end end mv.new) (at_end (not end) mv.new) (going ++ mv.units) (from_end end called mv.new) now
    (there ∙ sym mv.there) out (zero_units end caller called mv.new (rw (local, local_there) at mv.holds)) in
    record {
      steps = record {
        units = mv.units;
        arrived = mv.arrived;
        stays = under_way_for 1 this other going;
        lost = [];
        sendable = mv.sendable;
        outgoing = mv.wrote.outgoing;
        told = rw here mv.wrote.events;
        cut = cut;
        all_for = mv.all_for;
        written_for = mv.written_for;
        before = sym (append-nil (under_way_for 1 this other going));
        after = is ∙ mv.sent ∙ ap (λ (l : List Message). l ++ put) (sym was);
        brings = rw (here, now) mv.brings;
        others_stay = λ q apart. other_place next (at_end end mv.new) q mv.here apart
            ∙ sym (other_place this (at_end end g) q h.here apart);
        given = mv.here.given ∙ mv.given ∙ ap (λ (k : ℕ). k + references_for true mv.arrived put) (sym h.here.given);
        class = mv.here.class ∙ mv.class ∙ ap (λ (k : Option Class). class_behind_all (Some Zero) k mv.arrived) (sym h.here.class);
        local = mv.wrote.local;
        keeps = λ e. refl;
        lasts = mv.here.lasts;
      };
      joined = joined_zero end next other (going ++ mv.units) rest mv.new (record {
        role = mv.wrote.is_caller ∙ h.role;
        role_there = h.role_there;
        terms = rw (local, local_there) h.terms;
        here = mv.here;
        there = rw mv.there h.there;
        out = rw local out;
        back = rw local (append_cancel_left taken rest (from_end (not end) called mv.new) (sym cut ∙ h.back ∙ mv.back));
        holds = mv.holds;
      });
    }

-- ---- the CR and the CC

pub asks_first : (s r : State) (calling to : Option (List ℕ)) → HasOne s never → IsTsap calling → IsTsap to →
    ZeroMoves true unasked s r (asks calling to s) [] (ask ∷ [])
asks_first s r calling to one fits fits_to =
    let d = proposal s.local None calling to 1 in
    let same : proposal s.local s.class calling to (s.given + 1) ≡ d = grind arith in
    record {
      new = asking d;
      here = grind arith;
      there = refl;
      holds = record { calling = calling; called = to; is = refl; calling_fits = fits; called_fits = fits_to };
      units = request d ∷ [];
      arrived = [];
      wrote = record {
        outgoing = ap (λ (c : Connect). s.outgoing ++ packets (request c ∷ [])) same;
        events = sym (append-nil s.events);
        local = refl;
        is_caller = refl;
      };
      sendable = (proposal_sendable s.local calling to 1 (omega arith) fits fits_to, tt);
      written_for = (grind arith, tt);
      all_for = tt;
      out = refl;
      back = refl;
      sent = refl;
      brings = brings_none true not_yet awaiting None (Some asked) (ask ∷ []) refl refl;
      given = refl;
      class = refl;
    }

-- the called end takes the CR
pub request_taken : (s r : State) (c : Connect) → r.is_caller ≡ false → terms_of s.local r.local ≡ by_zero → HasOne r never →
    IsProposed 1 s.local c → ZeroMoves false (asking c) r s (react (request c) r) (request c ∷ []) (agree ∷ [])
request_taken s r c called terms one a =
    let source = source_is 1 s.local c a in
    let answer = answer_of r.local c in
    let link = opened_link Zero (selected_size c r.local) r.local c.credit in
    let p = opened_pair (opened_link Zero (agreed_size answer.parameters.size s.local) s.local answer.credit) link in
    let selects : selected_by c r.local ≡ accept Zero (selected_size c r.local) = grind arith in
    let does : react (request c) r ≡ (accepts Zero (selected_size c r.local) c r).state = grind (arith, length, has_room, react_quiet) in
    subst (λ (x : State). ZeroMoves false (asking c) r s x (request c ∷ []) (agree ∷ [])) (sym does) (record {
      new = accepting c p;
      here = grind arith;
      there = refl;
      holds = record { asked = a; open_links = opens_zero s.local r.local 1 c a; rightward = refl; left = refl };
      units = confirm 1 answer ∷ [];
      arrived = ask ∷ [];
      wrote = grind arith;
      sendable = (answer_zero_sendable s.local r.local c a, tt);
      written_for = (refl, tt);
      all_for = (source, tt);
      out = refl;
      back = refl;
      sent = refl;
      brings = record { is = refl; more = λ units. refl; may = (refl, tt); becomes = refl };
      given = refl;
      class = refl;
    })

-- the caller takes the CC
pub confirm_taken : (s r : State) (c : Connect) (p : LinkPair) → s.is_caller ≡ true → terms_of s.local r.local ≡ by_zero →
    HasOne s (was_given (Some asked)) → IsAccepted s.local r.local c p →
    ZeroMoves true (accepting c p) s r (react (confirm 1 (answer_of r.local c)) s) (confirm 1 (answer_of r.local c) ∷ []) []
confirm_taken s r c p caller terms one h =
    let answer = answer_of r.local c in
    let link = opened_link Zero (agreed_size answer.parameters.size s.local) s.local answer.credit in
    let does : react (confirm 1 answer) s ≡ (opens 1 answer (Some Zero) s).state = grind (arith, react_quiet) in
    let live : put 1 (linked 1 link) s.live ≡ (1, linked 1 p.left) ∷ [] =
    ap (put 1 (linked 1 link)) one.live ∙ ap (λ (l : Standing). (1, linked 1 l) ∷ []) (sym h.left) in
    subst (λ (x : State). ZeroMoves true (accepting c p) s r x (confirm 1 answer ∷ []) []) (sym does) (record {
      new = talking p;
      here = assumption live;
      there = refl;
      holds = h.open_links;
      units = [];
      arrived = agree ∷ [];
      wrote = grind (arith, append-nil);
      sendable = tt;
      written_for = tt;
      all_for = (refl, tt);
      out = ap (addressed 1) h.rightward;
      back = refl;
      sent = grind arith;
      brings = grind arith;
      given = refl;
      class = refl;
    })

-- ---- open links

-- the pair of links, seen from an end
abbrev pub pair_from : Bool → LinkPair → LinkPair
pair_from true p = p
pair_from false p = swapped p

open_from : (end : Bool) (p : LinkPair) → AreOpen false p → AreOpen false (pair_from end p)
open_from end p a = grind (arith, open_mirror)

pub talk_takes : (end : Bool) → Each → (this other : State) (p : LinkPair) (g : Given) (gs : List Given) → this.is_caller ≡ end →
    HasOne this (at_end end (talking p)) → AreOpen false p → (pair_from end p).leftward ≡ g ∷ gs →
    ZeroMoves end (talking p) this other (react (unit_of 1 g) this) (unit_of 1 g ∷ []) []
talk_takes true (inl none) this other p g gs role one a e = absurd none
talk_takes end each this other p g gs role one a e =
    let x = pair_from end p in
    let t = left_takes false x g gs 1 (omega arith) (open_from end p a) e in
    let given = all_given (handed_out t.link) in
    let got = take 1 t.link.ends.joining.whole in
    let does : react (unit_of 1 g) this ≡ (settles 1 1 t.link this).state = grind (arith, react_quiet) in
    let at : value_at 1 this.live ≡ Some (linked 1 x.left) = ap (value_at 1) one.live in
    let changes = settled_changes 1 this x.left t.link at in
    let c = talking_carries false 1 x (after_take x t.link gs) [] got (open_from end p a) t.passes in
    let brings = brings_given 1 g x.left t.link (open_from end p a).left.handed t.taken in
    let idle = idle_all in_use (map message got) refl brings.may in
    subst (λ (s : State). ZeroMoves end (talking p) this other s (unit_of 1 g ∷ []) []) (sym does) (record {
      new = talking (pair_from end (after_take x t.link gs));
      here = one_changed this (settles 1 1 t.link this).state x.left (pumped (handed_out t.link)) (addressed 1 given) (map (tsdu 1) got) one
          changes;
      there = refl;
      holds = open_from end (after_take x t.link gs) t.passes.stay_open;
      units = addressed 1 given;
      arrived = map message got;
      wrote = grind (arith, told_tsdus);
      sendable = all_sendable 1 given (omega arith) (all_rest HasGivenInRange x.rightward given t.passes.stay_open.range);
      written_for = zero_for given;
      all_for = (grind arith, tt);
      out = addressed_join 1 x.rightward given;
      back = ap (addressed 1) e;
      sent = c.after;
      brings = brings;
      given = grind (arith, idle.asks);
      class = sym (idle.class (Some Zero) (Some Zero));
    })

-- open at both ends, or at the called end for this CR, with its CC in flight
abbrev pub open_course : Option Connect → LinkPair → ZeroCourse
open_course None p = talking p
open_course (Some c) p = accepting c p

open_there : (end : Bool) (why : Option Connect) (caller called : Local) (p : LinkPair) → Holds caller called (open_course why p) →
    AreOpen false (pair_from end p)
open_there end why caller called p h = grind (arith, open_mirror)

-- a TSDU is handed in
pub talk_sends : (end : Bool) (why : Option Connect) → Each → (this other : State) (p : LinkPair) (octets : List ℕ) →
    at_end end (open_course why p) ≡ was_given (Some (linked 1 (pair_from end p).left)) → HasOne this (at_end end (open_course why p)) →
    Holds (called_local (not end) this other) (called_local end this other) (open_course why p) → IsShortTsdu octets → IsOctets octets →
    ZeroMoves end (open_course why p) this other (sent 1 octets this) [] (message octets ∷ [])
talk_sends true (Some c) each this other p octets at one h short are = cc
talk_sends false None (inl none) this other p octets at one h short are = absurd none
talk_sends end why each this other p octets at one h short are =
    let x = pair_from end p in
    let y = after_send x octets in
    let a = open_there end why (called_local (not end) this other) (called_local end this other) p h in
    let passes = sends_passes false x octets a short are in
    let given = all_given (with_tsdu x.left octets) in
    let changes = send_changes 1 this x.left octets one.lasts (ap (value_at 1) one.live) in
    let c = talking_carries false 1 x y (octets ∷ []) [] a passes in
    record {
      new = open_course why (pair_from end y);
      here = one_changed this (sent 1 octets this) x.left y.left (addressed 1 given) [] one changes;
      there = refl;
      holds = grind (arith, open_mirror);
      units = addressed 1 given;
      arrived = [];
      wrote = grind arith;
      sendable = all_sendable 1 given (omega arith) (all_rest HasGivenInRange x.rightward given passes.stay_open.range);
      written_for = zero_for given;
      all_for = tt;
      out = rw (addressed_join 1 x.rightward given) refl;
      back = refl;
      sent = grind (arith, c.after);
      brings = grind (arith, brings_none, drained_leaves);
      given = refl;
      class = refl;
    }
