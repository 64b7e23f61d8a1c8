-- The lines of an end are in the order of their references, whatever packets come.
use Rattle.osi_stack.proofs.Vocabulary.{AllByRecursion, eqb-true, eq-eqb, Fed, Local, may_connect, Happening, RiseFrom, AreUpTo, IsOrderly}
use Rattle.osi_stack.proofs.Vocabulary.{told_of, Rows, value_at, Connection, asked, State as Carrier, EndReason, Broken, beyond, push_here}
use Rattle.osi_stack.proofs.Vocabulary.{push_other, free_of, none_of, Input, opened as linked_up, connects, connect_error, terms_error}
use Rattle.osi_stack.proofs.Vocabulary.{breaks, carried, without_first, Feeds, opens, hears, hears_next, hears_times, hears_all}
use Rattle.osi_stack.proofs.Vocabulary.{with_events, with_carrier, attends, after_packet, ends, starves, loses, all_lost, Starves}
use Rattle.osi_stack.proofs.Vocabulary.{Soundness, IsSound, to_session, IsOrdered, Line, End, Holding, IsAttended, fresh_end, used_lines}
use Rattle.osi_stack.proofs.Vocabulary.{Connect, told_opened as opened, put_up, ◌≡◌, ℕ, zero, suc, ◌+◌, ◌<◌, ◌==◌, Bool, true, false, List}
use Rattle.osi_stack.proofs.Vocabulary.{◌∷◌, ◌++◌, length, Option, Some, None, IsSome, refl, sym, ap, subst, ◌∙◌, inl, inr, arith, []}
use Rattle.osi_carrier.specs.Packets as carriers
use Rattle.osi_stack.proofs.carried.events_one_after_the_other.{times_quiet}
use Rattle.osi_stack.proofs.carried.packets_without_events.{both, packet_is}
use Rattle.osi_stack.proofs.carried.open_connections_stay_open.{SessionLaws, first_is, rest_is, used_at, apart_push, joined_lines, put_some}
use Rattle.osi_stack.proofs.opening.connections_that_units_open.{Comes, IsOf, IsGiven, all_still, OpensAlong, along_units, along_end}
use Rattle.osi_stack.proofs.opening.connections_that_units_open.{along_over}
use Rattle.osi_stack.proofs.each_line.references_rise.{rise_joins, rise_lost, rise_first, rise_session, rise_connect}
use Rattle.osi_stack.proofs.sound.the_invariant_is_kept.{up_more, open_none, hale_kept, IsHale}
use Rattle.osi_stack.proofs.carried.what_each_step_preserves.{concluded_end, broken_end}
use Rattle.osi_stack.proofs.stream.what_feeding_keeps.{IsKeptBeside, feeds_beside}
use Rattle.osi_stack.proofs.carried.what_a_move_leaves.{used_keep, first_keep}
use Rattle.osi_stack.proofs.carried.what_sessions_leave_of_the_carrier.{times_leave, session_keeps}

-- ---- a line that is there

has_cons : (r p : ℕ) (y z : Line) (lines rest : Rows Line) (b : Bool) → (p == r) ≡ b → IsSome (value_at r ((p, y) ∷ lines)) →
    (IsSome (value_at r lines) → IsSome (value_at r rest)) →
    IsSome (value_at r ((p, z) ∷ rest))
has_cons r p y z lines rest b e h more = grind arith

has_lost : (r : ℕ) (lines : Rows Line) → IsSome (value_at r lines) → IsSome (value_at r (all_lost lines))
has_lost r [] h = h
has_lost r ((p, y) ∷ lines) h = has_cons r p y (loses y) lines (all_lost lines) (p == r) refl h (has_lost r lines)

has_first : (r : ℕ) (lines : Rows Line) → IsSome (value_at r lines) → IsSome (value_at r (without_first lines))
has_first r [] h = h
has_first r ((p, y) ∷ lines) h = grind (arith, first_keep, has_cons, has_first r lines)

-- ---- the events of a caller

-- a connection that is opened has a line
abbrev pub HasLine : Rows Line → Happening → Type 0
HasLine lines (opened r) = IsSome (value_at r lines)
HasLine lines event = Unit {0}

abbrev pub HaveLines : Rows Line → List Happening → Type 0
HaveLines lines events = AllByRecursion (HasLine lines) events

pub have_still : (old new : Rows Line) → ((r : ℕ) → IsSome (value_at r old) → IsSome (value_at r new)) → (event : Happening) →
    HasLine old event → HasLine new event
have_still old new kept (opened r) has = kept r has
have_still old new kept event has = tt

pub record Heard (old new : End) : Type 0 where
  pub rise : RiseFrom 0 new.lines
  pub kept : (r : ℕ) → IsSome (value_at r old.lines) → IsSome (value_at r new.lines)

pub one_heard : (event : Happening) (rest : List Happening) (e : End) → HaveLines e.lines (event ∷ rest) → RiseFrom 0 e.lines →
    Heard e (hears event e)
one_heard (opened r) rest e all rise = grind (arith, put_some, rise_session)
one_heard event rest e all rise = grind (arith, put_some, rise_session)

times_heard : (n : ℕ) (l : List Happening) (e : End) → e.carrier.events ≡ l → HaveLines e.lines l → RiseFrom 0 e.lines →
    Heard e (hears_times n e)
times_heard zero l e h all rise = record { rise = rise; kept = λ r some. some }
times_heard (suc n) [] e h all rise = grind (arith, times_quiet (suc n) e h)
times_heard (suc n) (event ∷ rest) e h all rise =
    search (
      arith,
      times_heard n rest (hears_next e) (rest_is event rest e h),
      one_heard event rest (with_events rest e) all rise,
      first_is event rest e h,
      all_still,
      have_still,
    )

-- ---- the events of a called end

up_push : (n r : ℕ) (line : Line) (lines : Rows Line) → n < r → AreUpTo n lines → AreUpTo r (lines ++ (r, line) ∷ [])
up_push n r line [] above up = ((omega arith), tt)
up_push n r line ((p, y) ∷ lines) above up = ((let low = up.0 in omega arith), up_push n r line lines above up.1)

up_used : (n : ℕ) (live : Rows Connection) (lines : Rows Line) → AreUpTo n lines → AreUpTo n (used_lines live lines)
up_used n live [] up = tt
up_used n live (row ∷ lines) up = grind (arith, used_keep, up_used n live lines up.1)

record HeardUpTo (n : ℕ) (new : End) : Type 0 where
  rise : RiseFrom 0 new.lines
  up : AreUpTo n new.lines

session_risen : (n r : ℕ) (input : Input) (e : End) → RiseFrom 0 e.lines → AreUpTo n e.lines → HeardUpTo n (to_session r input e)
session_risen n r input e rise up = record { rise = rise_session r input e rise; up = (grind (arith, put_up)) }

opens_up : (n r : ℕ) (o : Option Line) (e : End) → n < r → RiseFrom 0 e.lines → AreUpTo n e.lines → HeardUpTo r (opens r o e)
opens_up n r None e above rise up = search (arith, rise_joins, up_used, up_push)
opens_up n r (Some line) e above rise up = session_risen r r linked_up e rise (up_more n r e.lines (omega arith) up)

-- one more event was handled, and the references up to `reached` had lines by then
record HasRisen (event : Happening) (rest : List Happening) (e : End) (last : ℕ) : Type 0 where
  reached : ℕ
  comes : Comes reached rest last
  heard : HeardUpTo reached (hears event e)

one_risen : (event : Happening) (rest : List Happening) (e : End) (g h : ℕ) → Comes g (event ∷ rest) h → RiseFrom 0 e.lines →
    AreUpTo g e.lines → HasRisen event rest e h
one_risen (opened r) rest e g h comes rise up = search (arith, opens_up)
one_risen event rest e g h comes rise up = record { reached = g; comes = comes.1; heard = session_risen g (told_of event) _ e rise up }

times_up : (n : ℕ) (l : List Happening) (e : End) (g h : ℕ) → e.carrier.events ≡ l → Comes g l h → RiseFrom 0 e.lines →
    AreUpTo g e.lines → RiseFrom 0 (hears_times n e).lines
times_up zero l e g h is comes rise up = rise
times_up (suc n) [] e g h is comes rise up = grind (arith, times_quiet (suc n) e is)
times_up (suc n) (event ∷ rest) e g h is comes rise up =
    grind (
      arith,
      times_up n rest (hears_next e),
      rest_is event rest e is,
      one_risen event rest (with_events rest e) g h comes rise up,
      first_is event rest e is,
    )

-- ---- events that are handled

pub awaited_lines : (e : End) (l : List Happening) → IsOrdered e → AllByRecursion (IsOf e.carrier) l →
    AllByRecursion (IsGiven e.carrier.given) l → HaveLines e.lines l
awaited_lines e [] o of given = tt
awaited_lines e (event ∷ more) o of given = (grind arith, awaited_lines e more o of.1 given.1)

heard_by : (b : Bool) (n : ℕ) (e : End) (c : Carrier) → e.carrier.is_caller ≡ b → e.carrier.events ≡ [] → AreUpTo e.carrier.given e.lines →
    IsOrdered e → OpensAlong e.carrier c →
    IsOrdered (hears_times n (with_carrier c e))
heard_by true n e c caller none known o a =
    let mid = with_carrier c e in
    let events : c.events ≡ a.told = a.events ∙ ap (λ (l : List Happening). l ++ a.told) none in
    let heard = times_heard n a.told mid events (awaited_lines e a.told o a.about (a.known caller).1) o.rise in
    let left = times_leave n mid in
    grind (arith, left.side, left.awaited)
heard_by false n e c is_called none known o a = grind (arith, both, times_up, times_leave n (with_carrier c e))

heard_ordered : (n : ℕ) (e : End) (c : Carrier) → e.carrier.events ≡ [] → AreUpTo e.carrier.given e.lines → IsOrdered e →
    OpensAlong e.carrier c → IsOrdered (hears_times n (with_carrier c e))
heard_ordered n e c none known o a = heard_by e.carrier.is_caller n e c refl none known o a

pub lost_ordered : (e : End) → IsOrdered e → IsOrdered (record e { lines = all_lost e.lines })
lost_ordered e o = grind (arith, rise_lost, has_lost)

attends_ordered : (e : End) (c : Carrier) → e.carrier.events ≡ [] → AreUpTo e.carrier.given e.lines → IsOrdered e → OpensAlong e.carrier c →
    IsOrdered (attends (with_carrier c e))
attends_ordered e c none known o a =
    concluded_end IsOrdered lost_ordered (hears_all (with_carrier c e)) (heard_ordered (length c.events) e c none known o a)

-- ---- a packet

pub packet_along : (packet : List ℕ) (c : Carrier) → IsOrderly c → OpensAlong c (carriers.after_packet c packet)
unfolding carriers.after_packet
packet_along packet c orderly = grind (arith, along_units, along_over)

pub packet_ordered : (packet : List ℕ) (e : End) → e.carrier.events ≡ [] → Soundness e → IsOrdered e → IsOrdered (after_packet e packet)
packet_ordered packet e none s o = search (arith, packet_is, attends_ordered, packet_along)

-- ---- the end

ends_ordered : (reason : EndReason) (e : End) → IsOrdered e → IsOrdered (ends reason e)
ends_ordered reason e o = record { rise = rise_lost 0 e.lines o.rise; awaiting = λ r h. cc }

starves_ordered : (e : End) → IsOrdered e → IsOrdered (starves e)
starves_ordered e o = grind (arith, lost_ordered, rise_lost)

untold : (rest : List Happening) (e : End) → IsOrdered e → IsOrdered (with_events rest e)
untold rest e o = record { rise = o.rise; awaiting = o.awaiting }

starved_ordered : (e new : End) (packet : List ℕ) → Starves e packet new → e.carrier.events ≡ [] → Soundness e → IsOrdered e → IsOrdered new
starved_ordered e new packet (inl h) none s o =
    subst IsOrdered (sym h.2) (attends_ordered e h.0 none s.known o (grind (arith, along_end, along_units)))
starved_ordered e new packet (inr h) none s o =
    let mid = hears_times h.2.heard (with_carrier h.0 e) in
    subst IsOrdered (sym h.2.starved) (starves_ordered (with_events h.2.more mid)
    (untold h.2.more mid (heard_ordered h.2.heard e h.0 none s.known o (grind (arith, along_units, along_end, along_over)))))

-- ---- feeding

ordered_kept : IsKeptBeside IsHale IsOrdered
ordered_kept = record {
  each = λ packet e lasts hale o. packet_ordered packet e (hale.0 lasts) (hale.1 lasts) o;
  over = λ reason e hale o. ends_ordered reason e o;
  starved = λ packet e new lasts h hale o. starved_ordered e new packet h (hale.0 lasts) (hale.1 lasts) o;
}

pub feeds_ordered : SessionLaws → (old new : Holding) (piece : List ℕ) (fed : Fed) → Feeds old piece fed new → IsAttended old.end →
    IsSound old.end → IsOrdered old.end → IsOrdered new.end
feeds_ordered laws old new piece fed h attended sound ordered = grind (arith, feeds_beside, hale_kept, ordered_kept)

-- ---- calls

pub fresh_ordered : (is_caller : Bool) (local : Local) → IsOrdered (fresh_end is_caller local)
fresh_ordered is_caller local = record { rise = tt; awaiting = λ r h. cc }

pub connect_ordered : (c : Connect) (e : End) → connect_error c e ≡ None → IsSound e → IsOrdered e → IsOrdered (connects c e)
connect_ordered c e allowed sound o =
    let may = open_none (may_connect e.carrier) (terms_error c) allowed in
    let s = sound (none_of e.carrier.ended (free_of e.carrier may).lasts) in
    let q = e.carrier.given + 1 in
    let none : value_at q e.lines ≡ None = beyond q e.carrier.given e.lines s.known (omega arith) in
    record {
      rise = rise_connect c e s o.rise;
      awaiting = λ r h. grind (arith, used_at, asked, joined_lines, apart_push, eqb-true, push_here, both, eq-eqb, push_other);
    }

pub call_ordered : (r : ℕ) (input : Input) (e : End) → IsOrdered e → IsOrdered (to_session r input e)
call_ordered r input e o = grind (arith, put_some, rise_session, session_keeps r input e)

pub first_ordered : (e : End) → IsOrdered e → IsOrdered (record e { lines = without_first e.lines })
first_ordered e o = grind (arith, rise_first, has_first)

pub carried_ordered : (octets : ℕ) (e : End) → IsOrdered e → IsOrdered (carried octets e)
carried_ordered octets e o = record { rise = o.rise; awaiting = o.awaiting }

pub breaks_ordered : (e : End) → IsOrdered e → IsOrdered (breaks e)
breaks_ordered e o = broken_end IsOrdered (ends_ordered Broken) e o
