-- A DR arrives at an open connection and is answered by a DC: the turn of the tables, and what is in flight from the end
-- then, of which the last part may be lost.
-- For breaks and ends and packets.
use Rattle.osi_between.specs.Messages as carrier
use Rattle.osi_machine.specs.Worlds as worlds
use Rattle.osi_pair.proofs.Vocabulary.{◌≡◌, ℕ, Bool, false, List, [], ◌∷◌, map, take, sym, ap, ◌∙◌, arith, Held, place_at, Between, last_of}
use Rattle.osi_pair.proofs.Vocabulary.{under_way, put_in, is_cut, progress_of, Line as TableLine, Turn, Tables, Message, over, put, Move}
use Rattle.osi_pair.proofs.Vocabulary.{react, End, TwoEnds, end_at, other, is_caller, carriers_of, message_in, Stands, Goes, HasJoined}
use Rattle.osi_pair.proofs.Vocabulary.{Side, message_taken, without_first}
use Rattle.osi_pair.proofs.call.a_call_is_the_machines.{put_nothing}
use Rattle.osi_pair.proofs.turn.what_remains_when_a_unit_was_taken.{DidAt, line_then}
use Rattle.osi_pair.proofs.packet.a_session_makes_its_move.{heard_by}
use Rattle.osi_pair.proofs.session.a_reply_can_be_sent.{silent_broken}
use Rattle.osi_pair.proofs.packet.a_unit_with_which_no_session_acts.{answer_for, unless_broken, put_unless, leave_by}
use Rattle.osi_pair.proofs.flight.what_may_arrive_row_by_row.{Row, leaves, put_for}
use Rattle.osi_pair.proofs.turn.a_turn_keeps_the_match.{IsSeen, with_holding, out_there}
use Rattle.osi_pair.proofs.flight.what_is_in_flight_when_an_end_acts.{out_cuts, Takes}
use Rattle.osi_pair.proofs.flight.what_a_closing_receiver_has_dropped.{kind_of}

-- ---- the turn of the tables

-- what is in flight then: this many of the first, and the answer
abbrev pub left_channel : Bool → ℕ → List Message → List Message
left_channel broken keep channel = put broken (over ∷ []) (take keep channel)

abbrev pub left_turn : Bool → ℕ → Row → Move → List Message → TableLine → Turn
left_turn broken keep row move xs l =
    record { line = line_then row move.next (left_channel broken keep l.own.channel) xs l; shown = move.shown; closes = false }

pub turn_left : (broken : Bool) (terms : worlds.Terms) (keep reason : ℕ) (row : Row) (l : TableLine) (m : Message) (xs : List Message) →
    row ≡ leaves reason → l.own.transport ≡ worlds.linked → kind_of (message_in m) ≡ carrier.bye reason →
    message_taken broken terms keep l.own.transport (without_first l xs) m ≡ left_turn broken keep row
    (react l.own.session (heard_by row m)) xs l
turn_left broken terms keep reason row l m xs is tr kind = grind (arith, react, heard_by, silent_broken, put_nothing)

-- ---- what is in flight from it

-- `keep` messages of it remain, followed by the answer
pub record OutLeaves (s : Side) (p : TwoEnds) (b : Between) (t : Tables) (e : End) (h : Held) (n : ℕ) (l : TableLine)
    (d : DidAt s p b e h n) : Type 0 where
  pub keep : ℕ
  pub way : Goes s (other s) n (with_holding s e h p) d.now
      (progress_of (place_at n (last_of (is_caller (other s)) d.now))) l.peer.session.state (left_channel t.broken keep l.own.channel)

pub out_leaves : (s : Side) (p : TwoEnds) (b : Between) (t : Tables) (e : End) (h : Held) (n reason : ℕ) (l : TableLine) → Stands p b t →
    (d : DidAt s p b e h n) → d.row ≡ leaves reason → IsSeen s n p b l → Takes l.peer.session.state l.own.channel →
    OutLeaves s p b t e h n l d
out_leaves s p b t e h n reason l old d same i takes =
    let there = place_at n (last_of (is_caller (other s)) b) in
    let lasts = (end_at (other s) p).end.carrier.ended in
    let two = with_holding s e h p in
    let cut = is_cut (is_caller s) (carriers_of two) in
    let puts : unless_broken t.broken (answer_for d.row) ≡ unless_broken t.broken (over ∷ []) =
    ap (λ (r : Row). unless_broken t.broken (answer_for r)) same in
    let x = out_cuts lasts there (is_cut (is_caller s) (carriers_of p)) cut
    (HasJoined n (end_at (other s) p)) l.peer.session.state l.own.channel (unless_broken t.broken (over ∷ []))
    (under_way (is_caller s) n (carriers_of p) b)
    (under_way (is_caller s) n (carriers_of two) d.now) d.stays d.gone (put_in (carriers_of p) (put_for d.row)) i.out takes
    (leave_by t.broken cut over (λ begun. tt) (grind arith))
    d.out_before d.out_after
    (ap (map message_in) (sym puts) ∙ (grind arith)) in
    record {
      keep = x.keep;
      way = out_there s p d.now e h n (progress_of (place_at n (last_of (is_caller (other s)) d.now))) l.peer.session.state
          (left_channel t.broken x.keep l.own.channel)
          (grind (arith, d.there n, put_unless t.broken (over ∷ []) (take x.keep l.own.channel)));
    }
