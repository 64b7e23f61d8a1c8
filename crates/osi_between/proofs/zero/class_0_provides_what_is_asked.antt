-- Two carriers that agree on class 0: each unit that is taken, and each call.
-- For the invariant.
use Rattle.osi_between.specs.Zero.{asking, accepting, talking, answer_of, at_end, from_end, unasked}
use Rattle.osi_between.proofs.Vocabulary.{◌≡◌, ℕ, Bool, true, false, List, [], ◌∷◌, Option, Some, refl, sym, subst, ◌∙◌, not, arith}
use Rattle.osi_between.proofs.Vocabulary.{eqb-true, IsOctets, Value, request, confirm, IsShortTsdu, Standing, sent, Place, was_given}
use Rattle.osi_between.proofs.Vocabulary.{place_at, Happening, react, value_at, Connection, linked, State, reference_of, answers_in}
use Rattle.osi_between.proofs.Vocabulary.{answers_at, message, ask, by_zero, ZeroCourse, HasOne, called_local, inr, may_connect, IsTsap}
use Rattle.osi_between.proofs.Vocabulary.{asks, ◌+◌, None, ap}
use Rattle.osi_between.proofs.between.an_acting_end_keeps_the_invariant.{JoinedAt, Does}
use Rattle.osi_between.proofs.joined.feeding_keeps_carriers_joined.{with_queues}
use Rattle.osi_between.proofs.joined.class_2_provides_what_is_asked.{Provides}
use Rattle.osi_between.proofs.zero.the_one_connection_of_class_0.{one_place, AreZero, ZeroMoves, course_of, are_zero, does_zero, asks_first}
use Rattle.osi_between.proofs.zero.the_one_connection_of_class_0.{pair_from, request_taken, confirm_taken, talk_takes, talk_sends}
use Rattle.osi_between.proofs.meeting.a_connection_after_each_unit_and_call.{first_addressed, given_answers}

-- ---- a unit is taken

takes_by : (end : Bool) (this other : State) (going coming : List Value) (g : ZeroCourse) (u : Value) (more : List Value) →
    AreZero end this other going coming g → from_end (not end) (called_local end this other) g ≡ u ∷ more →
    ZeroMoves end g this other (react u this) (u ∷ []) (answers_at (at_end end g) u)
takes_by true s r going coming (accepting c p) u more h e =
    let same : confirm 1 (answer_of r.local c) ≡ u = cc in
    rw (sym same) (confirm_taken s r c p h.role h.terms h.here h.holds)
takes_by false r s going coming (asking c) u more h e =
    let same : request c ≡ u = cc in
    rw (sym same) (request_taken s r c h.role h.terms h.here h.holds)
takes_by end this other going coming (talking p) u more h e =
    let first = first_addressed 1 (pair_from end p).leftward u more e in
    let mv = talk_takes end (inr tt) this other p first.0 first.1 h.role h.here h.holds first.2 in
    rw (sym first.3) (rw (given_answers 1 (Some (linked 1 (pair_from end p).left)) first.0) at mv)
takes_by end this other going coming g u more h e = cc

takes_zero : (end : Bool) (this other : State) (going coming rest : List Value) (unit : Value) →
    JoinedAt end by_zero this other going coming → coming ≡ unit ∷ rest →
    Does by_zero end (reference_of unit) this other (react unit this) going coming rest (unit ∷ [])
    (answers_in by_zero (place_at (reference_of unit) this) unit)
takes_zero end this other going coming rest unit j cut =
    let g = course_of end this other going coming j in
    let h = are_zero end this other going coming j in
    let mv = takes_by end this other going coming g unit rest h (sym h.back ∙ cut) in
    rw (mv.all_for.0, one_place this (at_end end g) h.here)
    (does_zero end this other (react unit this) going coming rest (unit ∷ []) (answers_at (at_end end g) unit) g h cut mv)

-- ---- a TSDU is handed in

pub record AtOne (n : ℕ) (x y : Connection) : Type 0 where
  pub reference : n ≡ 1
  pub is : x ≡ y

pub at_one : (s : State) (n : ℕ) (x y : Connection) → HasOne s (was_given (Some x)) → value_at n s.live ≡ Some y → AtOne n x y
at_one s n x y one h = grind (arith, eqb-true)

-- at its place
pub record OpenAt (n : ℕ) (p : Place) (peer : ℕ) (link : Standing) : Type 0 where
  pub reference : n ≡ 1
  pub is : p ≡ was_given (Some (linked peer link))

pub open_at : (s : State) (p : Place) (n peer : ℕ) (link : Standing) → HasOne s p → value_at n s.live ≡ Some (linked peer link) →
    OpenAt n p peer link
open_at s p n peer link one at = grind (arith, eqb-true)

sends_by : (end : Bool) (this other : State) (going coming : List Value) (g : ZeroCourse) (peer : ℕ) (link : Standing) (octets : List ℕ) →
    AreZero end this other going coming g → at_end end g ≡ was_given (Some (linked peer link)) → IsShortTsdu octets → IsOctets octets →
    ZeroMoves end g this other (sent 1 octets this) [] (message octets ∷ [])
sends_by false r s going coming (accepting c p) peer link octets h at short are =
    talk_sends false (Some c) (inr tt) r s p octets refl h.here h.holds short are
sends_by end this other going coming (talking p) peer link octets h at short are =
    talk_sends end None (inr tt) this other p octets (grind arith) h.here h.holds short are
sends_by end this other going coming g peer link octets h at short are = cc

sends_zero : (end : Bool) (this other : State) (going coming : List Value) (n peer : ℕ) (link : Standing) (octets : List ℕ) →
    JoinedAt end by_zero this other going coming → value_at n this.live ≡ Some (linked peer link) → IsShortTsdu octets → IsOctets octets →
    Does by_zero end n this other (sent n octets this) going coming coming [] (message octets ∷ [])
sends_zero end this other going coming n peer link octets j at short are =
    let g = course_of end this other going coming j in
    let h = are_zero end this other going coming j in
    let one = open_at this (at_end end g) n peer link h.here at in
    rw one.reference (does_zero end this other (sent 1 octets this) going coming coming [] (message octets ∷ []) g h refl
    (sends_by end this other going coming g peer link octets h one.is short are))

-- ---- a connection is requested

asks_by : (s r : State) (going coming : List Value) (g : ZeroCourse) (calling to : Option (List ℕ)) → AreZero true s r going coming g →
    may_connect s ≡ None → IsTsap calling → IsTsap to → ZeroMoves true g s r (asks calling to s) [] (ask ∷ [])
asks_by s r going coming unasked calling to h may fits fits_to = asks_first s r calling to h.here fits fits_to
asks_by s r going coming g calling to h may fits fits_to = absurd (grind arith)

asks_zero : (s r : State) (going coming : List Value) (calling to : Option (List ℕ)) → JoinedAt true by_zero s r going coming →
    may_connect s ≡ None → IsTsap calling → IsTsap to →
    Does by_zero true (s.given + 1) s r (asks calling to s) going coming coming [] (ask ∷ [])
asks_zero s r going coming calling to j may fits fits_to =
    let h = are_zero true s r going coming j in
    let none : s.given ≡ 0 = h.here.given ∙ (grind arith) in
    subst (λ (n : ℕ). Does by_zero true n s r (asks calling to s) going coming coming [] (ask ∷ [])) (sym (ap (λ (g : ℕ). g + 1) none))
    (does_zero true s r (asks calling to s) going coming coming [] (ask ∷ []) j.course h refl
    (asks_by s r going coming j.course calling to h may fits fits_to))

-- ---- octets and events

queued_zero : (end : Bool) (this other : State) (o : List ℕ) (e : List Happening) (going coming : List Value) →
    JoinedAt end by_zero this other going coming → JoinedAt end by_zero (with_queues o e this) other going coming
queued_zero end this other o e going coming j = grind arith

pub provides_zero : Provides by_zero
provides_zero = search (arith, takes_zero, asks_zero, sends_zero, queued_zero)
