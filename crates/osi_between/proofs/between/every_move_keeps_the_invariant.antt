-- The invariant holds of two new carriers, and is kept when packets are taken, calls made, octets handed over, an end
-- ends, and the byte connection breaks.
-- For the invariant and the laws.
use Rattle.osi_between.specs.Between.{under_way}
use Rattle.osi_between.proofs.Vocabulary.{◌≡◌, ℕ, ◌+◌, ◌<◌, ◌≤◌, Bool, true, false, not, List, [], ◌∷◌, ◌++◌, length, take, drop, Option}
use Rattle.osi_between.proofs.Vocabulary.{Some, None, IfSome, refl, sym, ap, ◌∙◌, append_assoc, arith, inl, inr, append-nil, IsOctets}
use Rattle.osi_between.proofs.Vocabulary.{IsPacket, packet_of, Value, written, IsShortTsdu, Standing, may_connect, asks, sent, closed_with}
use Rattle.osi_between.proofs.Vocabulary.{place_at, Happening, react, value_at, Connection, linked, State, ends, EndReason, Closed}
use Rattle.osi_between.proofs.Vocabulary.{packet_reacts, reference_of, units_of, Both, side, reach_of, within_reach, arriving, Between}
use Rattle.osi_between.proofs.Vocabulary.{last_of, units_from, lost_from, IsOnTheWay, AreBetween, is_cut, answers_in, Acted, becomes, Took}
use Rattle.osi_between.proofs.Vocabulary.{Same, handed_over, still_to_tell, ended_at, broken_at, Loses, Lost, IsTsap, Message, ask, message}
use Rattle.osi_between.proofs.Vocabulary.{bye, messages_after, begun_at, Terms, by_two, by_zero, is_some, terms_of, fresh_both}
use Rattle.osi_between.proofs.Vocabulary.{fresh_between, empty_partial, Local}
use Rattle.osi_between.proofs.between.an_acting_end_keeps_the_invariant.{Does, by_end, Each, all_from, acted, JoinedAt, sum_of}
use Rattle.osi_between.proofs.unit.the_units_of_one_connection.{units_join}
use Rattle.osi_between.proofs.joined.feeding_keeps_carriers_joined.{with_queues}
use Rattle.osi_between.proofs.unit.units_are_read_as_messages.{messages_front}
use Rattle.osi_between.proofs.way.octets_are_written_and_handed_over.{way_over, bound_over, way_unit, way_breaks, less_by}
use Rattle.osi_between.proofs.joined.class_2_provides_what_is_asked.{Provides, closes_two, provides_two}
use Rattle.osi_between.proofs.way.an_end_holds_no_fault.{first_held, comes_to}
use Rattle.osi_between.proofs.zero.class_0_provides_what_is_asked.{provides_zero}
use Rattle.osi_between.proofs.zero.a_called_end_that_refuses_all.{provides_none}
use Rattle.osi_between.proofs.joined.requests_beginnings_and_nothing_in_flight.{fresh_joined}

-- ---- whatever they agree on

provides : (terms : Terms) → Provides terms
provides terms = grind (arith, provides_two, provides_zero, provides_none)

pub begins : (caller called : Local) → AreBetween (terms_of caller called) (fresh_both caller called) (fresh_between caller called)
begins caller called = grind (arith, by_end, fresh_joined, not, empty_partial, length)

-- ---- messages

record Front (all first : List Message) : Type 0 where
  gone : List Message
  parts : all ≡ first ++ gone

front_parts : (o : Option Connection) (n : ℕ) (units done left tail : List Value) → units ≡ done ++ left →
    Front (messages_after (begun_at o) (units_of n units ++ tail)) (sum_of o n done true None)
front_parts o n units done left tail parts =
    let us = units_of n done in
    let vs = units_of n left ++ tail in
    grind (arith, messages_front us (begun_at o) vs, units_join n done left, append_assoc us (units_of n left) tail, append-nil us)

-- ---- the byte connection breaks

record BreakOf (held outgoing : List ℕ) (k : ℕ) (ended : Option EndReason) (units : List Value) : Type 0 where
  done : List Value
  left : List Value
  parts : units ≡ done ++ left
  way : ended ≡ None → IsOnTheWay held (take k outgoing) done left

break_by : (held outgoing : List ℕ) (k : ℕ) (ended : Option EndReason) (units lost : List Value) → lost ≡ [] →
    (ended ≡ None → IsOnTheWay held outgoing units lost) → BreakOf held outgoing k ended units
break_by held outgoing k None units lost none h = grind (arith, way_breaks held outgoing k units lost none (h refl))
break_by held outgoing k (Some reason) units lost none h = record { done = units; left = []; parts = sym (append-nil units); way = λ e. cc }

break_from : (terms : Terms) (end : Bool) (both : Both) (b : Between) (k : ℕ) → AreBetween terms both b → both.reach ≡ None →
    BreakOf (side (not end) both).held (side end both).state.outgoing k (side (not end) both).state.ended (units_from end b)
break_from terms end both b k a whole =
    let reach : reach_of end both.reach ≡ None = ap (reach_of end) whole in
    break_by (side (not end) both).held (side end both).state.outgoing k (side (not end) both).state.ended (units_from end b)
    (lost_from end b) (a.unbroken whole end) (λ h. rw reach at (a.comes end h))

all_parts : (units lost done left : List Value) → lost ≡ [] → units ≡ done ++ left → units ++ lost ≡ done ++ left
all_parts units lost done left none parts = ap (λ (l : List Value). units ++ l) none ∙ append-nil units ∙ parts

loses_of : (end : Bool) (n : ℕ) (old new : Both) (b c : Between) → Front (under_way end n old b) (under_way end n new c) →
    Loses end n old new b c
loses_of end n old new b c f = record { gone = f.gone; all = f.parts }

pub breaks : (terms : Terms) (both : Both) (b : Between) (k l : ℕ) → AreBetween terms both b → both.reach ≡ None →
    k ≤ length both.caller.state.outgoing → l ≤ length both.called.state.outgoing → Lost terms both (broken_at k l both) b
breaks terms both b k l a whole less less_called =
    let out = break_from terms true both b k a whole in
    let back = break_from terms false both b l a whole in
    let new = broken_at k l both in
    let now : Between = record b { going = out.done; going_lost = out.left; coming = back.done; coming_lost = back.left } in
    record {
      now = now;
      between = record {
        lives = grind (arith, by_end);
        joined = rw (
          all_parts b.going b.going_lost out.done out.left (a.unbroken whole true) out.parts,
          all_parts b.coming b.coming_lost back.done back.left (a.unbroken whole false) back.parts,
        ) at a.joined;
        comes = grind (arith, by_end);
        unbroken = λ e x. cc;
        bound = by_end true (λ e. IfSome (reach_of e new.reach) (λ m. m ≤ length (side e new).state.outgoing)) less less_called;
      };
      units = grind (arith, by_end, all_parts);
      loses = grind (arith, by_end, loses_of, front_parts);
      cut = λ e h. refl;
      whole = λ e n h. cc;
      stays = λ e n. by_end true (λ x. place_at n (last_of x now) ≡ place_at n (last_of x b)) refl refl e;
      given = λ e. by_end true (λ x. (last_of x now).given ≡ (last_of x b).given) refl refl e;
      class = λ e. by_end true (λ x. (last_of x now).class ≡ (last_of x b).class) refl refl e;
    }

-- ---- at either end

-- a unit is taken
takes : (terms : Terms) (end : Bool) (both : Both) (b : Between) (u : Value) (rest : List Value) (behind : List ℕ) →
    AreBetween terms both b → (side end both).state.ended ≡ None → units_from (not end) b ≡ u ∷ rest →
    IsOnTheWay behind (arriving (not end) both) rest (lost_from (not end) b) →
    Acted terms end (reference_of u) both (becomes end (react u (side end both).state) behind both) b (u ∷ [])
    (answers_in terms (place_at (reference_of u) (last_of end b)) u)
takes terms end both b u rest behind a alive first way =
    let this = last_of end b in
    let put = answers_in terms (place_at (reference_of u) this) u in
    let lost = lost_from (not end) b in
    let d = (provides terms).takes_one end this (last_of (not end) b) (all_from end b) (all_from (not end) b) (rest ++ lost) u
    (grind arith) (ap (λ (l : List Value). l ++ lost) first) in
    let e = acted terms end (inr tt) (reference_of u) both b (react u this) behind rest (u ∷ []) put a alive way first d in
    grind (arith, a.lives end alive)

-- the packet that is held first is taken
pub took : (terms : Terms) (end : Bool) (both : Both) (b : Between) (packet octets behind : List ℕ) →
    AreBetween terms both b → (side end both).state.ended ≡ None → IsPacket packet octets → (side end both).held ≡ octets ++ behind →
    Took terms end packet behind both b
took terms end both b packet octets behind a alive is cut =
    let w = first_held terms end both b a alive packet octets behind is cut in
    grind (arith, packet_reacts, takes terms end both b w.unit w.left behind a alive w.parts w.way)

-- the unit that comes first is taken
pub took_unit : (terms : Terms) (end : Bool) (both : Both) (b : Between) (u : Value) (rest : List Value)
    (behind : List ℕ) → AreBetween terms both b → (side end both).state.ended ≡ None → units_from (not end) b ≡ u ∷ rest →
    (side end both).held ≡ packet_of (written u) ++ behind →
    Acted terms end (reference_of u) both (becomes end (react u (side end both).state) behind both) b (u ∷ [])
    (answers_in terms (place_at (reference_of u) (last_of end b)) u)
took_unit terms end both b u rest behind a alive first cut = search (arith, takes, way_unit, comes_to)

-- a call
joined_now : (terms : Terms) (end : Bool) (both : Both) (b : Between) → AreBetween terms both b → (side end both).state.ended ≡ None →
    JoinedAt end terms (side end both).state (last_of (not end) b) (all_from end b) (all_from (not end) b)
joined_now terms end both b a alive = rw (a.lives end alive) (grind arith)

call : (terms : Terms) (end : Bool) (n : ℕ) (both : Both) (b : Between) (next : State) (put : List Message) → AreBetween terms both b →
    (side end both).state.ended ≡ None →
    Does terms end n (side end both).state (last_of (not end) b) next (all_from end b) (all_from (not end) b) (all_from (not end) b) []
    put → Acted terms end n both (becomes end next (side end both).held both) b [] put
call terms end n both b next put a alive d = let e = rw (a.lives end alive) at d in search (arith, acted terms end (inr tt), comes_to)

pub sends : (terms : Terms) (end : Bool) (both : Both) (b : Between) (n peer : ℕ) (link : Standing) (tsdu : List ℕ) →
    AreBetween terms both b → (side end both).state.ended ≡ None → value_at n (side end both).state.live ≡ Some (linked peer link) →
    IsShortTsdu tsdu → IsOctets tsdu →
    Acted terms end n both (becomes end (sent n tsdu (side end both).state) (side end both).held both) b [] (message tsdu ∷ [])
sends terms end both b n peer link tsdu a alive at short are =
    call terms end n both b (sent n tsdu (side end both).state) (message tsdu ∷ []) a alive
    ((provides terms).hands_in end (side end both).state (last_of (not end) b) (all_from end b) (all_from (not end) b) n peer link tsdu
    (joined_now terms end both b a alive) at short are)

pub closes : (end : Bool) (both : Both) (b : Between) (n peer : ℕ) (link : Standing) (reason : ℕ) → AreBetween by_two both b →
    (side end both).state.ended ≡ None → value_at n (side end both).state.live ≡ Some (linked peer link) → reason < 256 →
    Acted by_two end n both (becomes end (closed_with n reason (side end both).state) (side end both).held both) b [] (bye reason ∷ [])
closes end both b n peer link reason a alive at small =
    call by_two end n both b (closed_with n reason (side end both).state) (bye reason ∷ []) a alive
    (closes_two end (side end both).state (last_of (not end) b) (all_from end b) (all_from (not end) b) n peer link reason
    (joined_now by_two end both b a alive) at small)

-- in class 0 a close ends the carrier
pub closes_ends : (end : Bool) (both : Both) (b : Between) (n peer : ℕ) (link : Standing) (reason : ℕ) → AreBetween by_zero both b →
    (side end both).state.ended ≡ None → value_at n (side end both).state.live ≡ Some (linked peer link) →
    closed_with n reason (side end both).state ≡ ends Closed (side end both).state
closes_ends end both b n peer link reason a alive at = search (arith, all_from)

pub connects : (terms : Terms) (both : Both) (b : Between) (calling to : Option (List ℕ)) → AreBetween terms both b →
    both.caller.state.ended ≡ None → may_connect both.caller.state ≡ None → IsTsap calling → IsTsap to →
    Acted terms true (both.caller.state.given + 1) both (becomes true (asks calling to both.caller.state) both.caller.held both) b []
    (ask ∷ [])
connects terms both b calling to a alive may fits fits_called =
    call terms true (both.caller.state.given + 1) both b (asks calling to both.caller.state) (ask ∷ []) a alive
    ((provides terms).connects both.caller.state b.called (all_from true b) (all_from false b) calling to
    (joined_now terms true both b a alive) may fits fits_called)

-- ---- octets, events and ends

abbrev with_last : Bool → State → Between → Between
with_last true s b = record b { caller = s }
with_last false s b = record b { called = s }

-- what is to be handed over or reported at an end changes, and what is in flight to either does not
queued_at : (terms : Terms) (end : Bool) → Each → (both new : Both) (b : Between) (o : List ℕ) (e : List Happening) →
    AreBetween terms both b → (side end new).state ≡ with_queues o e (side end both).state →
    (side (not end) new).state ≡ (side (not end) both).state → (new.reach ≡ None → both.reach ≡ None) →
    is_some new.reach ≡ is_some both.reach → ((x : Bool) → (side (not x) new).state.ended ≡ None →
    IsOnTheWay (side (not x) new).held (arriving x new) (units_from x b) (lost_from x b)) →
    ((x : Bool) → IfSome (reach_of x new.reach) (λ k. k ≤ length (side x new).state.outgoing)) → Same terms both new b
queued_at terms true (inl none) both new b o e a here there reach broken comes bound = absurd none
queued_at terms end each both new b o e a here there reach broken comes bound =
    let now : Between = with_last end (with_queues o e (last_of end b)) b in
    record {
      now = now;
      between = record {
        lives = grind (arith, by_end, a.lives end, a.lives (not end));
        joined = (provides terms).queued end (last_of end b) (last_of (not end) b) o e (all_from end b) (all_from (not end) b) a.joined;
        comes = by_end end (λ x. (side (not x) new).state.ended ≡ None →
            IsOnTheWay (side (not x) new).held (arriving x new) (units_from x now) (lost_from x now)) (comes end) (comes (not end));
        unbroken = λ e x. by_end end (λ y. lost_from y now ≡ []) (a.unbroken (reach e) end) (a.unbroken (reach e) (not end)) x;
        bound = bound;
      };
      units = λ e. by_end end (λ x. units_from x now ≡ units_from x b) refl refl e;
      lost = λ e. by_end end (λ x. lost_from x now ≡ lost_from x b) refl refl e;
      under = grind (arith, by_end);
      stays = λ e n. by_end end (λ x. place_at n (last_of x now) ≡ place_at n (last_of x b)) refl refl e;
      given = λ e. by_end end (λ x. (last_of x now).given ≡ (last_of x b).given) refl refl e;
      class = λ e. by_end end (λ x. (last_of x now).class ≡ (last_of x b).class) refl refl e;
    }

-- octets are handed over
pub hands_over : (terms : Terms) (end : Bool) (both : Both) (b : Between) (k : ℕ) → AreBetween terms both b →
    k ≤ length (arriving end both) → Same terms both (handed_over end k both) b
hands_over terms end both b k a less =
    let new = handed_over end k both in
    let outgoing = (side end both).state.outgoing in
    let there : (side (not end) new).state ≡ (side (not end) both).state = grind arith in
    let held : (side (not end) new).held ≡ (side (not end) both).held ++ take k outgoing = grind arith in
    let arrives : arriving end new ≡ within_reach (less_by k (reach_of end both.reach)) (drop k outgoing) = grind arith in
    queued_at terms end (inr tt) both new b (drop k outgoing) (side end both).state.events a (grind arith) there (grind arith) (grind arith)
    (by_end end (λ x. (side (not x) new).state.ended ≡ None → IsOnTheWay (side (not x) new).held (arriving x new) (units_from x b)
    (lost_from x b))
    (λ h. rw (held, arrives) (way_over (reach_of end both.reach) k (side (not end) both).held outgoing (units_from end b) (lost_from end b)
    less (a.bound end) (a.comes end (rw there at h))))
    (grind (arith, a.comes (not end))))
    (grind (arith, by_end, bound_over (reach_of end both.reach) k outgoing (a.bound end), a.bound (not end)))

-- events are reported
pub tells : (terms : Terms) (end : Bool) (both : Both) (b : Between) (events : List Happening) →
    AreBetween terms both b → Same terms both (still_to_tell end events both) b
tells terms end both b events a =
    queued_at terms end (inr tt) both (still_to_tell end events both) b (side end both).state.outgoing events a (grind arith) (grind arith)
    (grind arith) (grind arith) (grind (arith, by_end)) (grind (arith, by_end))

-- it ends
ends_by : (terms : Terms) (end : Bool) → Each → (both : Both) (b : Between) (reason : EndReason) → AreBetween terms both b →
    Lost terms both (ended_at end reason both) b
ends_by terms true (inl none) both b reason a = absurd none
ends_by terms end each both b reason a =
    let new = ended_at end reason both in
    record {
      now = b;
      between = assumption (
        by_end end (λ e. (side e new).state.ended ≡ None → (side e new).state ≡ last_of e b) (λ h. cc)
            (λ h. a.lives (not end) h),
        by_end end (λ e. (side (not e) new).state.ended ≡ None →
            IsOnTheWay (side (not e) new).held (arriving e new) (units_from e b) (lost_from e b)) (λ h. a.comes end h) (λ h. cc),
        by_end end
            (λ e. IfSome (reach_of e new.reach) (λ m. m ≤ length (side e new).state.outgoing)) (a.bound end) (a.bound (not end)),
      );
      units = λ e. refl;
      loses = grind (arith, by_end, loses_of, front_parts, append-nil);
      cut = λ e. by_end end (λ x. is_cut x both ≡ true → is_cut x new ≡ true) (λ h. sym (grind arith)) (λ h. h) e;
      whole = grind (arith, by_end);
      stays = λ e n. refl;
      given = λ e. refl;
      class = λ e. refl;
    }

pub ends_at : (terms : Terms) (end : Bool) (both : Both) (b : Between) (reason : EndReason) → AreBetween terms both b →
    Lost terms both (ended_at end reason both) b
ends_at terms end both b reason a = ends_by terms end (inr tt) both b reason a
