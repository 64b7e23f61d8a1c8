-- The line of a reference, at its place among the lines.
use Rattle.std.proofs.Common.{arith, ◌≡◌, ℕ, Bool, true, get_or, set, Option, Some, None, Result, OnOk, IfErr, refl, sym, ap}
pub use Rattle.osi_carrier.proofs.references.the_row_at_a_place.{nowhere}
use Rattle.osi_stack.proofs.Vocabulary.{placed, here_is, Carrying, RiseFrom, Rows, value_at, place_of, State as Carrier, Call, Input}
use Rattle.osi_stack.proofs.Vocabulary.{Listener, CallError, session_refusal, session_error, Refuses, line_by, carrier_by, by_line}
use Rattle.osi_stack.proofs.Vocabulary.{to_session, Line, End, session_in}

-- what a search in rows that rise, if they are said to, has found among the lines
pub found : (r : ℕ) (rises : Bool) (o : Option ℕ) (slice items rows : Rows Line) → slice ≡ items → items ≡ rows →
    (rises ≡ true → RiseFrom 0 items) → ((rises ≡ true → RiseFrom 0 slice) → o ≡ place_of r slice) → place_of r rows ≡ o
found r rises o slice items rows same is rise search = grind arith

-- ---- an event for the line at a place

-- no line, and nothing happens
pub unheard : (r : ℕ) (rows : Rows Line) (input : Input) (c : Carrier) → place_of r rows ≡ None →
    ◌≡◌ {A = End} (record { carrier = c; lines = rows }) (to_session r input (record { carrier = c; lines = rows }))
unheard r rows input c e = sym (ap (λ o. by_line r o input (record { carrier = c; lines = rows })) (nowhere r rows e))

pub heard_rows : {A E : Type 0} (result : Result A E) (r : ℕ) (rows items : Rows Line) (i : ℕ) (row new : ℕ × Line) (c d : Carrying)
    (input : Input) →
    place_of r rows ≡ Some i → row ≡ get_or rows i row → items ≡ rows →
    OnOk result (new ≡ (row.0, line_by row.1 row.1.session input)) →
    OnOk result (d ≡ record c { state = carrier_by row.0 row.1.session input c.state }) →
    OnOk result (◌≡◌ {A = End} (record { carrier = d.state; lines = set items i new })
    (to_session r input (record { carrier = c.state; lines = rows })))
heard_rows h r rows items i row new c d input e here same h2 k = search (arith, placed, set, here_is)

-- ---- calls at a place

pub session_here : (r : ℕ) (rows : Rows Line) (i : ℕ) (row : ℕ × Line) → place_of r rows ≡ Some i → row ≡ get_or rows i row →
    row.1.session ≡ session_in (value_at r rows)
session_here r rows i row e here = sym (ap session_in (here_is r rows rows i row e here refl))

-- by the parts of the line
pub allowed_at : {A E : Type 0} (result : Result A E) (r q : ℕ) (rows : Rows Line) (i : ℕ) (row : ℕ × Line) (line : Line) (s : Listener)
    (call : Call) (c : Carrier) → place_of r rows ≡ Some i → row ≡ get_or rows i row → (q, line) ≡ row → line.session ≡ Some s →
    OnOk result (session_refusal q (Some s) call c ≡ None) → OnOk result (session_refusal r (session_in (value_at r rows)) call c ≡ None)
allowed_at result r q rows i row line s call c e here is held h = grind (arith, placed, session_here)

pub refused_at : {A : Type 0} (result : Result A CallError) (r q : ℕ) (rows : Rows Line) (i : ℕ) (row : ℕ × Line) (line : Line)
    (s : Listener) (call : Call) (c : Carrier) → place_of r rows ≡ Some i → row ≡ get_or rows i row → (q, line) ≡ row →
    line.session ≡ Some s →
    IfErr result (λ e. Refuses e (session_error (Some s) call) (session_refusal q (Some s) call c)) →
    IfErr result (λ e. Refuses e (session_error (session_in (value_at r rows)) call)
    (session_refusal r (session_in (value_at r rows)) call c))
refused_at result r q rows i row line s call c e here is held h = grind (arith, placed, session_here)
