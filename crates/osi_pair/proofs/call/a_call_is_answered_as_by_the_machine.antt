-- A call is answered as the machine answers it.
-- For calls.
use Rattle.osi_session.specs.declared.faults.CallError.TheVariants as error
use Rattle.osi_pair.proofs.Vocabulary.{◌≡◌, refl, sym, ◌∙◌, ℕ, zero, suc, ◌<◌, Bool, true, false, nat_le, if◌then◌else◌, length, Option}
use Rattle.osi_pair.proofs.Vocabulary.{Some, None, arith, lt-ltb, le-leb, leb-true, leb-false, was_given, value_at, Connection, Between}
use Rattle.osi_pair.proofs.Vocabulary.{connection_at, is_given, Seat, Line, Tables, side_of, allowed, Call, HasSerial, Standing, called}
use Rattle.osi_pair.proofs.Vocabulary.{react, is_ended, CallError, call_error, table_error, AllCameAbout, Soundness, End, Holding}
use Rattle.osi_pair.proofs.Vocabulary.{session_at, TwoEnds, end_at, side_in, transport_in, IsSeated, Stands, Side, none_there}
use Rattle.osi_pair.proofs.turn.what_an_acting_end_leaves_in_flight.{of_end, there, place_given}
use Rattle.osi_pair.proofs.session.an_end_moves_as_the_tables_do.{calls_so}
use Rattle.osi_pair.proofs.turn.a_turn_keeps_the_match.{seen}

-- what the machine answers, by the line of the reference
abbrev pub seat_error : Seat → Call → Option CallError
seat_error seat call = if is_given seat.transport then (react seat.session (called call)).error else Some error.NoSuchConnection

abbrev pub line_error : Option Line → Call → Option CallError
line_error None call = Some error.NoSuchConnection
line_error (Some l) call = seat_error l.own call

-- ---- a session that is over

pub ended_refuses : (s : Standing) (call : Call) → is_ended s.state.phase ≡ true → (react s (called call)).error ≡ Some error.Ended
unfolding react allowed
ended_refuses s call e = grind arith

-- ---- a reference

pub session_gone : (r : ℕ) (e : End) → value_at r e.carrier.live ≡ None → session_at r e ≡ None
session_gone r e h = grind arith

live_given : (x : Connection) → is_given (transport_in (was_given (Some x))) ≡ true
live_given x = grind arith

seat_at : (r : ℕ) (h : Holding) (seat : Seat) (call : Call) (given : Bool) → 0 < r → nat_le r h.end.carrier.given ≡ given →
    IsSeated r h seat → table_error r call h.end ≡ seat_error seat call
seat_at r h seat call true some e s = search (arith, place_given, lt-ltb, le-leb, session_gone, ended_refuses, react, live_given, calls_so)
seat_at r h seat call false some e s = search (arith, leb-false)

-- ---- at two ends that match the tables

none_given : (r : ℕ) (side : Side) (p : TwoEnds) (b : Between) (t : Tables) (call : Call) → Stands p b t → connection_at r t.lines ≡ None →
    table_error r call (end_at side p).end ≡ Some error.NoSuchConnection
none_given zero side p b t call s at = refl
none_given (suc k) side p b t call s at = by_fit (nat_le (suc k) (length t.lines)) refl
  where
    by_fit : (fits : Bool) → nat_le (suc k) (length t.lines) ≡ fits →
        table_error (suc k) call (end_at side p).end ≡ Some error.NoSuchConnection
    by_fit true e = let h = s.lines (suc k) (omega arith) (leb-true (suc k) (length t.lines) e) in let no = sym at ∙ h.found in absurd cc
    by_fit false e = let above = leb-false (suc k) (length t.lines) e in grind (arith, of_end)

table_at : (r : ℕ) (side : Side) (p : TwoEnds) (b : Between) (t : Tables) (call : Call) (o : Option Line) → Stands p b t →
    connection_at r t.lines ≡ o → table_error r call (end_at side p).end ≡ line_error (side_of (side_in side) o) call
table_at r side p b t call None s at = none_given r side p b t call s at
table_at r side p b t call (Some l) s at = grind (arith, seat_at, seen, there none_there r p b t l s at)

-- an error of the carrier makes no difference
abbrev pub Answered : Type 0
Answered = (r : ℕ) (call : Call) (e : End) → HasSerial call → e.carrier.ended ≡ None → Soundness e → AllCameAbout e.lines →
    call_error r call e ≡ table_error r call e

pub answer_same : Answered → (r : ℕ) (side : Side) (p : TwoEnds) (b : Between) (t : Tables) (call : Call) → HasSerial call →
    Stands p b t → call_error r call (end_at side p).end ≡ line_error (side_of (side_in side) (connection_at r t.lines)) call
answer_same answers r side p b t call serial s =
    search (arith, of_end side p b t s, table_at r side p b t call (connection_at r t.lines) s refl)
