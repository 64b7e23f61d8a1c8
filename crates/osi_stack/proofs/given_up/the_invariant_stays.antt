-- One connection is given up: the invariant of every end's carrier, of its sessions and of each of its lines stays so.
use Rattle.osi_stack.proofs.Vocabulary.{eqb-true, eq-eqb, and-true, closed_with, RiseFrom, Rows, value_at, State as Carrier, is_open}
use Rattle.osi_stack.proofs.Vocabulary.{here_is, placed, place_of, put_here, put_other, put_rise, put_up, orderly_closed, closed_opens}
use Rattle.osi_stack.proofs.Vocabulary.{Listener, after_input, broken, react, IsNamed, CameAbout, AllCameAbout, OfLines, OfSession}
use Rattle.osi_stack.proofs.Vocabulary.{OfSessions, loses, needs_link, Soundness, IsSound, kept_at, IsOrdered, Line, End, IsAttended}
use Rattle.osi_stack.proofs.Vocabulary.{session_in, ne_eqb, arith, ◌≡◌, ◌≢◌, ℕ, ◌==◌, Bool, true, false, [], Option, Some, None, get_or}
use Rattle.osi_stack.proofs.Vocabulary.{set, option_map, sym, ap, ◌∙◌, given_up, gives_up, disconnects}
use Rattle.osi_stack.proofs.carried.events_one_after_the_other.{concluded_carrier}
use Rattle.osi_stack.proofs.each_line.what_stays_true_of_each_session.{came_moves}
use Rattle.osi_stack.proofs.carried.what_sessions_leave_of_the_carrier.{close_keeps}
use Rattle.osi_stack.proofs.carried.packets_without_events.{both}
use Rattle.osi_stack.proofs.carried.open_connections_stay_open.{apart_put, put_some, broken_needs_none}
use Rattle.osi_stack.proofs.each_line.what_stays_true_of_each_line.{line_at, put_lines, lost_lines}
use Rattle.osi_stack.proofs.each_line.lines_stay_in_order.{lost_ordered}
use Rattle.osi_stack.proofs.each_line.references_rise.{rise_lost}
use Rattle.osi_stack.proofs.sound.the_invariant_is_kept.{closed_given, concludes_lasting}
use Rattle.osi_stack.proofs.carried.what_each_step_preserves.{concluded_end}

-- ---- the line of a reference

pub given_here : (r : ℕ) (lines : Rows Line) → value_at r (gives_up r lines) ≡ option_map given_up (value_at r lines)
given_here r lines = grind (arith, put_here)

pub given_other : (q r : ℕ) (lines : Rows Line) → q ≢ r → value_at q (gives_up r lines) ≡ value_at q lines
given_other q r lines ne = grind (arith, put_other)

-- at its place
pub given_rows : (r : ℕ) (rows items : Rows Line) (i : ℕ) (row new : ℕ × Line) → place_of r rows ≡ Some i → row ≡ get_or rows i row →
    items ≡ rows → new ≡ (row.0, given_up row.1) →
    set items i new ≡ gives_up r rows
given_rows r rows items i row new e here same is = search (arith, placed, set, here_is)

-- its session
pub session_given : (o : Option Line) → session_in (option_map given_up o) ≡ option_map (λ s. after_input s broken) (session_in o)
session_given o = grind arith

-- ---- the carrier has closed the connection, and the session is given up

abbrev pub closed_and_given : ℕ → End → End
closed_and_given r e = record { carrier = closed_with r 128 e.carrier; lines = gives_up r e.lines }

pub disconnect_carrier : (r : ℕ) (e : End) → (disconnects r e).carrier ≡ closed_with r 128 e.carrier
disconnect_carrier r e = concluded_carrier (closed_and_given r e)

pub disconnect_lasts : (r : ℕ) (e : End) → (disconnects r e).carrier.ended ≡ None → (closed_with r 128 e.carrier).ended ≡ None
disconnect_lasts r e over = ap (λ (c : Carrier). c.ended) (sym (disconnect_carrier r e)) ∙ over

-- if the end goes on
pub disconnect_is : (r : ℕ) (e : End) → (disconnects r e).carrier.ended ≡ None → disconnects r e ≡ closed_and_given r e
disconnect_is r e over = grind (arith, disconnect_lasts, concludes_lasting)

pub disconnect_attended : (r : ℕ) (e : End) → IsAttended e → IsAttended (disconnects r e)
disconnect_attended r e attended over = grind (arith, close_keeps, disconnect_carrier, disconnect_lasts)

-- ---- what holds of lines

pub disconnect_lines : (Q : Line → Type 0) (r : ℕ) (e : End) → ((line : Line) → Q line → Q (given_up line)) →
    ((line : Line) → Q (loses line)) → OfLines Q e.lines →
    OfLines Q (disconnects r e).lines
disconnect_lines Q r e moves lost all =
    concluded_end (λ x. OfLines Q x.lines) (λ x all. lost_lines Q x.lines lost) (closed_and_given r e) (grind (arith, put_lines, line_at))

pub disconnect_sessions : (P : Listener → Type 0) (r : ℕ) (e : End) → ((s : Listener) → P s → P (after_input s broken)) →
    OfSessions P e.lines → OfSessions P (disconnects r e).lines
disconnect_sessions P r e moves all = disconnect_lines (OfSession P) r e (λ line h. grind arith) (λ line. tt) all

pub disconnect_came : (r : ℕ) (e : End) → AllCameAbout e.lines → AllCameAbout (disconnects r e).lines
disconnect_came r e all = disconnect_sessions CameAbout r e (came_moves broken tt) all

-- an ended session indicates no loss
pub named_given : (o : Option Listener) (line : Line) → line.session ≡ o →
    IsNamed (record line { session = option_map (λ s. after_input s broken) o; waiting = [] })
unfolding react
named_given o line is = grind arith

pub disconnect_rise : (r : ℕ) (e : End) → RiseFrom 0 e.lines → RiseFrom 0 (disconnects r e).lines
disconnect_rise r e rise = grind (arith, concluded_end, rise_lost, put_rise)

pub disconnect_ordered : (r : ℕ) (e : End) → IsOrdered e → IsOrdered (disconnects r e)
disconnect_ordered r e o = grind (arith, lost_ordered (closed_and_given r e), put_rise, put_some, close_keeps r e.carrier)

-- ---- sessions and their connections

links_by : (r q : ℕ) (e : End) (s : Listener) (b : Bool) → (q == r) ≡ b → Soundness e → e.carrier.ended ≡ None →
    (closed_with r 128 e.carrier).ended ≡ None →
    kept_at q (gives_up r e.lines) ≡ Some s → needs_link s.state.phase ≡ true → is_open q (closed_with r 128 e.carrier) ≡ true
links_by r q e s true at sound was lasts is needs = grind (arith, given_here, session_given, eqb-true, broken_needs_none, both)
links_by r q e s false at sound was lasts is needs = grind (arith, both, eq-eqb, given_other, closed_opens, ne_eqb, and-true)

pub disconnect_sound : (r : ℕ) (e : End) → IsSound e → IsSound (disconnects r e)
disconnect_sound r e sound over =
    let lasts = disconnect_lasts r e over in
    let was = (close_keeps r e.carrier).leaves.lasts lasts in
    let s = sound was in
    grind (arith, apart_put, closed_given, put_up, links_by, disconnect_is r e over, orderly_closed r 128 e.carrier s.orderly)
