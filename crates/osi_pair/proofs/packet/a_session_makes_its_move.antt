-- A message arrives, and a session makes its move: the step of the tables.
-- For breaks and ends and packets.
use Rattle.osi_between.specs.Messages as carrier
use Rattle.osi_pair.proofs.Vocabulary.{◌≡◌, ℕ, Bool, true, false, List, [], ◌∷◌, Option, Some, None, arith, connection_at, delivers, learns}
use Rattle.osi_pair.proofs.Vocabulary.{Line as TableLine, Turn, Tables, seen_from, end_of, after_turn, step, Message, unit, put, replied}
use Rattle.osi_pair.proofs.Vocabulary.{said_of, Meaning, Input, taken, opened, refused, broken as broken_off, Standing, react, side_in}
use Rattle.osi_pair.proofs.Vocabulary.{message_in, Side}
use Rattle.osi_pair.proofs.turn.what_remains_when_a_unit_was_taken.{line_then}
use Rattle.osi_pair.proofs.flight.what_may_arrive_row_by_row.{Row, agrees, denies, tells, before, arrived_in}
use Rattle.osi_pair.proofs.session.a_seat_is_its_progress_and_session.{transport_by}
use Rattle.osi_pair.proofs.flight.what_a_closing_receiver_has_dropped.{kind_of}

-- what happens to the session
abbrev pub heard_by : Row → Message → Input
heard_by agrees m = opened
heard_by (denies reason) m = refused reason
heard_by (tells octets) (unit u) = taken (said_of u)
heard_by row m = broken_off

-- the rows in which it makes its move
abbrev pub is_move : Row → Bool
is_move agrees = true
is_move (denies reason) = true
is_move (tells octets) = true
is_move row = false

-- the turn if the move sends this
abbrev pub turn_then : Row → Input → Bool → Option Meaning → Standing → List Message → List Message → TableLine → Turn
turn_then row input broken reply x channel back l = record {
  line = line_then row (react x input).next (put broken (replied reply) channel) back l;
  shown = (react x input).shown;
  closes = (react x input).closes;
}

-- the step of the tables
pub step_moves : (t : Tables) (s : Side) (n : ℕ) (keep : ℕ → ℕ) (row : Row) (l : TableLine) (m : Message) (xs : List Message)
    (got : carrier.Message) → end_of (side_in s) t ≡ None → connection_at n t.lines ≡ Some (seen_from (side_in s) l) →
    l.peer.channel ≡ m ∷ xs → l.own.transport ≡ transport_by (before row) → is_move row ≡ true → arrived_in row ≡ got ∷ [] →
    kind_of (message_in m) ≡ kind_of got →
    step t (delivers (side_in s) n keep) ≡ after_turn (record t { known = learns t.terms l.own.transport m t.known }) (side_in s) n keep
    (turn_then row (heard_by row m) t.broken (react l.own.session (heard_by row m)).reply l.own.session l.own.channel xs l)
step_moves t s n keep row l m xs got lasting found first tr move one alike = grind arith
