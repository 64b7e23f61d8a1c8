-- Each session that waits for its transport connection has one that was requested.
use Rattle.osi_stack.proofs.Vocabulary.{eqb-true, eq-eqb, Fed, beyond, push_here, push_other, Happening, IsOrderly, told_of, value_at}
use Rattle.osi_stack.proofs.Vocabulary.{asked, Call, Input, Listener, called, opened, refused, react, is_wait_transport, awaits, connects}
use Rattle.osi_stack.proofs.Vocabulary.{without_first, Feeds, opens, hears, hears_next, hears_times, with_events, with_carrier}
use Rattle.osi_stack.proofs.Vocabulary.{after_packet, AreApart, HasAsked, Soundness, IsSound, kept_at, to_session, Line, End, Holding}
use Rattle.osi_stack.proofs.Vocabulary.{IsAttended, Connect, input_of, ◌≡◌, ℕ, ◌==◌, true, false, List, ◌∷◌, length, Option, Some, None}
use Rattle.osi_stack.proofs.Vocabulary.{refl, sym, ◌∙◌, inl, inr, arith, []}
use Rattle.osi_carrier.specs.Happenings as told
use Rattle.osi_carrier.specs.Packets as carriers
use Rattle.osi_stack.proofs.opening.which_requests_are_answered.{answered, answered_behind}
use Rattle.osi_stack.proofs.carried.events_one_after_the_other.{concluded_carrier}
use Rattle.osi_stack.proofs.carried.what_sessions_leave_of_the_carrier.{session_keeps}
use Rattle.osi_stack.proofs.carried.packets_without_events.{both, packet_is, never}
use Rattle.osi_stack.proofs.carried.open_connections_stay_open.{SessionLaws, Hearing, session_hears, first_is, rest_is, times_last}
use Rattle.osi_stack.proofs.carried.open_connections_stay_open.{hears_apart, used_at, apart_push, joined_lines}
use Rattle.osi_stack.proofs.each_session.a_session_is_what_its_inputs_made.{kept_joined}
use Rattle.osi_stack.proofs.carried.what_a_move_leaves.{kept_first}
use Rattle.osi_stack.proofs.each_line.lines_stay_in_order.{packet_along}
use Rattle.osi_stack.proofs.sound.the_invariant_is_kept.{concludes_lasting, hale_kept, IsHale}
use Rattle.osi_stack.proofs.stream.what_feeding_keeps.{feeds_beside, over_beside}

-- a session that waits for its transport connection did so before
abbrev pub StillWaits : Type 0
StillWaits = (s : Listener) (input : Input) → is_wait_transport (react s input).next.state.phase ≡ true →
    is_wait_transport s.state.phase ≡ true

-- ---- while events wait

-- a session that waits, whose connection none of the events answers, has one that was requested
abbrev pub AllAsked : List Happening → End → Type 0
AllAsked events e = (r : ℕ) (s : Listener) → kept_at r e.lines ≡ Some s → is_wait_transport s.state.phase ≡ true →
    answered r events ≡ false → value_at r e.carrier.live ≡ Some asked

-- an event answers no connection of a session that waits after it
abbrev Unanswered : ℕ → Input → Happening → List Happening → Type 0
Unanswered q input event rest = (s : Listener) → is_wait_transport (react s input).next.state.phase ≡ true →
    answered q (event ∷ rest) ≡ answered q rest

heard_asked : StillWaits → (q : ℕ) (input : Input) (event : Happening) (rest : List Happening) (e d : End) → told_of event ≡ q →
    Hearing q input e d →
    ((r : ℕ) → value_at r e.carrier.live ≡ Some asked → value_at r d.carrier.live ≡ Some asked) → Unanswered q input event rest →
    AllAsked (event ∷ rest) e → AllAsked rest d
heard_asked law q input event rest e d of (inl m) stays quiet all = λ r s. search (arith, eqb-true, answered, both, eq-eqb)
heard_asked law q input event rest e d of (inr m) stays quiet all = grind arith

session_asked : StillWaits → (q : ℕ) (input : Input) (event : Happening) (rest : List Happening) (e : End) → told_of event ≡ q →
    (to_session q input e).carrier.ended ≡ None →
    Unanswered q input event rest → AllAsked (event ∷ rest) e → AllAsked rest (to_session q input e)
session_asked law q input event rest e of over quiet all =
    search (arith, heard_asked, session_hears, (session_keeps q input e).leaves.stays over)

-- ---- one event

opened_waits : (s : Listener) → is_wait_transport (react s opened).next.state.phase ≡ false
unfolding react
opened_waits s = grind arith

refused_waits : (s : Listener) (reason : ℕ) → is_wait_transport (react s (refused reason)).next.state.phase ≡ false
unfolding react
refused_waits s reason = grind arith

joined_asked : (q : ℕ) (rest : List Happening) (e : End) → AreApart e.lines → value_at q e.lines ≡ None →
    AllAsked (told.opened q ∷ rest) e → AllAsked rest (opens q None e)
joined_asked q rest e apart none all =
    λ r s is n h. grind (
      arith,
      kept_joined q r awaits s e.carrier.live e.lines (q == r) refl none,
      used_at r e.carrier.live (joined_lines q awaits e.lines) (apart_push q _ e.lines none apart),
    )

opens_asked : StillWaits → (q : ℕ) (rest : List Happening) (e : End) (o : Option Line) → value_at q e.lines ≡ o → AreApart e.lines →
    (opens q o e).carrier.ended ≡ None →
    AllAsked (told.opened q ∷ rest) e → AllAsked rest (opens q o e)
opens_asked law q rest e None at apart over all = joined_asked q rest e apart at all
opens_asked law q rest e (Some line) at apart over all =
    session_asked law q opened (told.opened q) rest e refl over
    (λ s n. both (is_wait_transport (react s opened).next.state.phase) n (opened_waits s)) all

hears_asked : StillWaits → (event : Happening) (rest : List Happening) (e : End) → AreApart e.lines → (hears event e).carrier.ended ≡ None →
    AllAsked (event ∷ rest) e → AllAsked rest (hears event e)
hears_asked law (told.opened q) rest e apart over all = opens_asked law q rest e (value_at q e.lines) refl apart over all
hears_asked law (told.refused q reason) rest e apart over all =
    session_asked law q (refused reason) (told.refused q reason) rest e refl over
    (λ s n. both (is_wait_transport (react s (refused reason)).next.state.phase) n (refused_waits s reason)) all
hears_asked law event rest e apart over all = session_asked law (told_of event) (input_of event) event rest e refl over (λ s n. refl) all

-- ---- all events

times_asked : StillWaits → (l : List Happening) (e : End) → e.carrier.events ≡ l → AreApart e.lines →
    (hears_times (length l) e).carrier.ended ≡ None → AllAsked l e → AllAsked [] (hears_times (length l) e)
times_asked law [] e h apart over all = all
times_asked law (event ∷ rest) e h apart over all =
    search (
      arith,
      times_asked law rest (hears_next e) (rest_is event rest e h),
      first_is event rest e h,
      times_last,
      hears_asked law event rest (with_events rest e),
      hears_apart event (with_events rest e),
    )

-- ---- a packet

packet_told : (packet : List ℕ) (e : End) → IsOrderly e.carrier → e.carrier.ended ≡ None →
    (carriers.after_packet e.carrier packet).ended ≡ None → HasAsked e →
    AllAsked (carriers.after_packet e.carrier packet).events (with_carrier (carriers.after_packet e.carrier packet) e)
packet_told packet e o lasts over has = grind (arith, both, answered, answered_behind, packet_along packet e.carrier o)

pub packet_asked : StillWaits → (packet : List ℕ) (e : End) → e.carrier.ended ≡ None → Soundness e → HasAsked e →
    HasAsked (after_packet e packet)
packet_asked law packet e lasts sound has over =
    grind (arith, packet_is, concluded_carrier, times_last, times_asked, packet_told, concludes_lasting)

-- ---- calls

pub call_asked : StillWaits → (r : ℕ) (call : Call) (e : End) → HasAsked e → HasAsked (to_session r (called call) e)
call_asked law r call e has over =
    let lasts = (session_keeps r (called call) e).leaves.lasts over in
    let all : AllAsked (told.tsdu r [] ∷ []) e = (λ q s is n h. has lasts q s is n) in
    search (arith, session_asked)

pub connect_asked : (c : Connect) (e : End) → IsSound e → HasAsked e → HasAsked (connects c e)
connect_asked c e sound has over = grind (arith, beyond, kept_joined, used_at, joined_lines, apart_push, push_here, push_other)

pub first_asked : (e : End) → HasAsked e → HasAsked (record e { lines = without_first e.lines })
first_asked e has over r s is n = has over r s (sym (kept_first r e.lines) ∙ is) n

-- ---- feeding

pub feeds_asked : SessionLaws → StillWaits → (old new : Holding) (piece : List ℕ) (fed : Fed) → Feeds old piece fed new →
    IsAttended old.end → IsSound old.end → HasAsked old.end → HasAsked new.end
feeds_asked laws law old new piece fed h attended sound has =
    feeds_beside IsHale HasAsked (hale_kept laws)
    (over_beside IsHale HasAsked (λ packet e lasts hale has. packet_asked law packet e lasts (hale.1 lasts) has) (grind (arith, never)))
    old new piece fed h (attended, sound) has
