-- What needs memory indicates, sends or keeps something.
use Rattle.osi_stack.proofs.Vocabulary.{disconnect, Class, Zero, placed, closes, closed_with, close_error, open_link, Rows, value_at}
use Rattle.osi_stack.proofs.Vocabulary.{place_of, State as Carrier, Input, session_needs, Line, session_in, ◌≡◌, ℕ, Bool, true, [], ◌∷◌}
use Rattle.osi_stack.proofs.Vocabulary.{get_or, Option, Some, None, Result, Err, OnErr, refl, arith, written_grows, grows, CallError}
use Rattle.osi_stack.proofs.Vocabulary.{OutOfMemory}
use Rattle.osi_stack.proofs.each_line.the_line_of_a_reference.{session_here}

-- ---- a DR

closing_in : (r peer : ℕ) (c : Carrier) (class : Option Class) → (class ≡ Some Zero → ⊥) → grows c (closes r peer 128 class c) ≡ true
closing_in r peer c (Some Zero) other = absurd (other refl)
closing_in r peer c _ other = written_grows c _ (disconnect peer r 128 [] ∷ []) (omega arith) refl

-- a connection that is closed, but not in class 0
pub closing_needs : (r : ℕ) (c : Carrier) → close_error (open_link r c) ≡ None → (c.class ≡ Some Zero → ⊥) →
    grows c (closed_with r 128 c) ≡ true
closing_needs r c e other = grind (arith, closing_in)

-- if memory is needed, and there is no other error
pub wants_memory : {A : Type 0} (result : Result A CallError) (grown : Bool) → OnErr result (grown ≡ true) → result ≡ Err OutOfMemory →
    grown ≡ true
wants_memory result grown h is = grind arith

-- ---- at a place

pub needs_at : {A E : Type 0} (result : Result A E) (r : ℕ) (rows : Rows Line) (i : ℕ) (row : ℕ × Line) (input : Input) (c : Carrier) →
    place_of r rows ≡ Some i → row ≡ get_or rows i row →
    OnErr result (session_needs row.0 row.1.session input c ≡ true) →
    OnErr result (session_needs r (session_in (value_at r rows)) input c ≡ true)
needs_at result r rows i row input c e here h = grind (arith, placed, session_needs, session_in, value_at, session_here)
