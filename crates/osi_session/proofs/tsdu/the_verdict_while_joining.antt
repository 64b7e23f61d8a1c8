-- The joined octets of an unfinished SSDU, and the verdict on a word.
use Rattle.osi_session.proofs.Vocabulary.{length-append, State, UnitFault, Unexpected, TokenHeld, BadEnclosure, DataTooLong, is_over}
use Rattle.osi_session.proofs.Vocabulary.{is_restarting, takes_data, most_data, Outcome, si, drops, bad, Verdict, over, dropped, faulty}
use Rattle.osi_session.proofs.Vocabulary.{fine, verdict, is_faulty, enacted, respond_unit, replies_abort, is_silent, kind_of, Kind, si_of}
use Rattle.osi_session.proofs.Vocabulary.{Taker, joined_octets, begins_anew, is_in_place, word_verdict, Reacts, Meaning, DT, Place, says}
use Rattle.osi_session.proofs.Vocabulary.{part, ◌≡◌, sym, ap, ℕ, ◌+◌, Bool, true, false, not, ◌||◌, if◌then◌else◌, nat_le, List, ◌++◌}
use Rattle.osi_session.proofs.Vocabulary.{length, Option, Some, None, is_none, Result, arith, Reaction}
use Rattle.osi_session.proofs.tables.the_verdict_on_a_unit.{enacts, enacted_reply}

pub length_both : (a b : List ℕ) → nat_le (length a + length b) 1048572 ≡ nat_le (length (a ++ b)) most_data
length_both a b = ap (λ n. nat_le n 1048572) (sym (length-append a b))

-- ---- a part

pub part_verdict : (t : Taker) (place : Place) (octets : List ℕ) → word_verdict t (part place octets) ≡
    (if is_over t.state.phase || is_restarting t.state.phase then (if is_over t.state.phase then over else dropped)
    else if not (takes_data t.state.phase) then faulty (Unexpected (si (DT octets))) else if t.state.held.data_token then
    faulty (TokenHeld (si (DT octets)))
    else if not (is_in_place t.joined place) then faulty (BadEnclosure (si (DT octets)))
    else if not (nat_le (length (joined_octets t.joined ++ octets)) most_data) then faulty (DataTooLong (si (DT octets))) else fine)
part_verdict t place octets = grind arith

-- ---- a message that may not occur within an SSDU, within one

-- its own fault comes first
pub misplaced_verdict : (t : Taker) (u : Meaning) → (is_none t.joined || not (begins_anew u)) ≡ false →
    word_verdict t (says u) ≡ (if (is_over t.state.phase || drops t.state u) || is_faulty (verdict t.state u) then verdict t.state u else
    faulty (BadEnclosure (si u)))
misplaced_verdict t u h = search arith

pub misplaced_stays : (s : State) (u : Meaning) (o : Outcome) (d b : Bool) (f : UnitFault) → respond_unit s u ≡ o →
    b ≡ replies_abort o.reply → (d || b) ≡ true →
    enacted s u (if d || is_faulty (verdict s u) then verdict s u else faulty f) ≡ o
misplaced_stays s u o d b f h k w = grind (arith, enacts, enacted_reply)

pub misplaced_turns : (s : State) (u : Meaning) (o : Outcome) (d b : Bool) (f : UnitFault) → respond_unit s u ≡ o →
    b ≡ replies_abort o.reply → (d || b) ≡ false →
    enacted s u (if d || is_faulty (verdict s u) then verdict s u else faulty f) ≡ bad s f
misplaced_turns s u o d b f h k w = grind (arith, enacts, enacted_reply)

pub bad_loud : (s : State) (f : UnitFault) → is_silent (bad s f) ≡ false
bad_loud s f = grind arith

pub misplaced_loud : (s : State) (u : Meaning) (d : Bool) (f : UnitFault) → is_silent (respond_unit s u) ≡ false →
    is_silent (enacted s u (if d || is_faulty (verdict s u) then verdict s u else faulty f)) ≡ false
misplaced_loud s u d f h0 = grind (arith, enacts, bad_loud)

-- ---- what a message does, by its verdict among words

pub reacts_plain : {E : Type 0} (r : Result Reaction E) (t : Taker) (u : Meaning) (o : Option Kind) → Reacts r (respond_unit t.state u)
    → o ≡ None → o ≡ (if is_none t.joined || not (begins_anew u) then None else Some (kind_of u)) →
    Reacts r (enacted t.state u (word_verdict t (says u)))
reacts_plain r t u o k n h = grind (arith, enacts)

abbrev pub misplaced_as : State → Meaning → Kind → Verdict
misplaced_as s u k = if (is_over s.phase || drops s u) || is_faulty (verdict s u) then verdict s u else faulty (BadEnclosure (si_of k))

pub reacts_misplaced : {E : Type 0} (r : Result Reaction E) (t : Taker) (u : Meaning) (o : Option Kind) (j : Kind) →
    Reacts r (enacted t.state u (misplaced_as t.state u j))
    → o ≡ Some j → o ≡ (if is_none t.joined || not (begins_anew u) then None else Some (kind_of u)) →
    Reacts r (enacted t.state u (word_verdict t (says u)))
reacts_misplaced r t u o j k n h = grind (arith, misplaced_verdict)
