-- What a call and a delivery leave of the tables of one connection of class 0, of which nothing is lost.
-- For the law that a run of calls and answers is one of the machine of whole connections.
use Rattle.osi_blameless.proofs.accord.Vocabulary.{[], append-nil, false, length, List, map, None, Ok, Option, Some, take, true, ℕ, ◌++◌}
use Rattle.osi_blameless.proofs.accord.Vocabulary.{◌∷◌, ◌≡◌}
use Rattle.osi_blameless.proofs.accord.Vocabulary.{Meaning, said_of, allowed, Call, in_state, Standing, Outcome, respond, without_tokens}
use Rattle.osi_blameless.proofs.accord.Vocabulary.{Ended}
use Rattle.osi_blameless.proofs.accord.Vocabulary.{State, calls, closed_here, delivers, Ending, Entry, is_given, one_or_none, Line, Seat}
use Rattle.osi_blameless.proofs.accord.Vocabulary.{step}
use Rattle.osi_blameless.proofs.accord.Vocabulary.{Tables, accepts, class_0, gone, linked, Message, replied, Transport, unit, other}
use Rattle.osi_blameless.proofs.accord.Vocabulary.{Direction, Left}
use Rattle.osi_blameless.proofs.accord.Vocabulary.{Right, side_at, utters, uttered_at, arith, Step}
use Rattle.osi_session.specs.Moves.{react}

-- ---- the tables, seen from one side

abbrev pub facing : Direction → (own peer : Seat) → Line
facing Left x y = record { own = x; peer = y }
facing Right x y = record { own = y; peer = x }

abbrev pub left_of : Direction → (own peer : Option Ending) → Option Ending
left_of Left a b = a
left_of Right a b = b

abbrev pub tables : Direction → (own peer : Seat) → (a b : Option Ending) → List Entry → Tables
tables d x y a b journal = record {
  terms = accepts class_0;
  broken = false;
  left_end = left_of d a b;
  right_end = left_of (other d) a b;
  known = Some class_0;
  lines = facing d x y ∷ [];
  journal = journal;
}

abbrev pub seat : Transport → Standing → List Message → Seat
seat transport s channel = record { transport = transport; session = s; channel = channel }

-- ---- a call

abbrev pub called_seat : Seat → State → Meaning → Seat
called_seat x n m = seat x.transport (in_state x.session n) (x.channel ++ unit m ∷ [])

pub call_leaves : (d : Direction) (x y : Seat) (a b : Option Ending) (j : List Entry) (c : Call) (n : State) (m : Meaning) →
    is_given x.transport ≡ true → allowed x.session.state c ≡ Ok (record { next = n; sent = m }) →
    step (tables d x y a b j) (calls (side_at d) 1 c)
    ≡ tables d (called_seat x n m) y a b (step (tables d x y a b j) (calls (side_at d) 1 c)).journal
unfolding react
call_leaves d x y a b j c n m given allows = grind arith

pub call_utters : (d : Direction) (x y : Seat) (a b : Option Ending) (j : List Entry) (c : Call) (n : State) (m : Meaning) →
    is_given x.transport ≡ true → allowed x.session.state c ≡ Ok (record { next = n; sent = m }) →
    uttered_at (tables d x y a b j) (calls (side_at d) 1 c) ≡ utters d m ∷ []
unfolding react
call_utters d x y a b j c n m given allows = grind arith

-- ---- a delivery

-- nothing in flight from this side is lost
abbrev pub keeping : List Message → ℕ → ℕ
keeping channel r = length channel

abbrev pub taking_at : Direction → List Message → Step
taking_at d channel = delivers (side_at d) 1 (keeping channel)

-- a unit is in flight to this side
abbrev pub coming : Direction → Standing → List Message → Seat → Meaning → List Message → Option Ending → List Entry → Tables
coming d s channel y u rest b j = tables d (seat linked s channel) (seat y.transport y.session (unit u ∷ rest)) None b j

pub delivery_leaves : (d : Direction) (s : Standing) (channel : List Message) (y : Seat) (u : Meaning) (rest : List Message)
    (b : Option Ending) (j : List Entry) (o : Outcome) → respond s.state (said_of u) ≡ o → o.closes ≡ false →
    step (coming d s channel y u rest b j) (taking_at d channel)
    ≡ tables d (seat linked (in_state s o.next) (channel ++ replied o.reply)) (seat y.transport y.session rest) None b
    (step (coming d s channel y u rest b j) (taking_at d channel)).journal
unfolding react
delivery_leaves d s channel y u rest b j o is stays = grind arith

-- the transport connection is closed
pub close_leaves : (d : Direction) (s : Standing) (channel : List Message) (y : Seat) (u : Meaning) (rest : List Message)
    (b : Option Ending) (j : List Entry) (o : Outcome) → respond s.state (said_of u) ≡ o → o.closes ≡ true →
    step (coming d s channel y u rest b j) (taking_at d channel)
    ≡ tables d (seat gone (in_state s (without_tokens Ended o.next)) (take (length channel) (channel ++ replied o.reply)))
    (seat y.transport y.session rest) (Some closed_here) b
    (step (coming d s channel y u rest b j) (taking_at d channel)).journal
unfolding react
close_leaves d s channel y u rest b j o is closes = grind arith

pub delivery_utters : (d : Direction) (s : Standing) (channel : List Message) (y : Seat) (u : Meaning) (rest : List Message)
    (b : Option Ending) (j : List Entry) (o : Outcome) → respond s.state (said_of u) ≡ o →
    uttered_at (coming d s channel y u rest b j) (taking_at d channel) ≡ map (utters d) (one_or_none o.reply)
unfolding react
delivery_utters d s channel y u rest b j o is = grind (arith, append-nil)
