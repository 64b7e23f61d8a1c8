-- The invariant of every end between any two calls is kept.
use Rattle.osi_stack.proofs.Vocabulary.{OnOk, OnErr, units_of, Value, TpduFault, Local, Units, said_by_units, Fed, IsOrderly, reacts, Rows}
use Rattle.osi_stack.proofs.Vocabulary.{value_at, State as Carrier, NoMemory, orderly_fresh, orderly_units, orderly_packet, orderly_asks}
use Rattle.osi_stack.proofs.Vocabulary.{orderly_end, orderly_ended, orderly_same, Call, HasSerial, Input, Listener, called, taken, react}
use Rattle.osi_stack.proofs.Vocabulary.{after_inputs, HasProfile, Opening, unit_bits, awaiting, asking, HasNumbersInWords, connects}
use Rattle.osi_stack.proofs.Vocabulary.{connect_error, opening_of, breaks, carried, without_first, call_error, stops, Goes, Feeds}
use Rattle.osi_stack.proofs.Vocabulary.{with_carrier, attends, after_packet, Starves, to_session, Line, End, Holding, fresh_end, session_in}
use Rattle.osi_stack.proofs.Vocabulary.{session_at, waits, CameAbout, IsProfiled, IsNamed, OfSessions, IsSettled, Connect, free_of, none_of}
use Rattle.osi_stack.proofs.Vocabulary.{◌≡◌, ℕ, ◌≤◌, ◌<◌, Bool, true, false, List, ◌∷◌, length, drop, Option, Some, None, Result, Ok, Err}
use Rattle.osi_stack.proofs.Vocabulary.{arith, is_some, IsSome, refl, sym, subst, inl, inr, [], is_profile}
use Rattle.osi_carrier.specs.Packets as carriers
use Rattle.osi_session.specs.declared.faults.CallError.TheVariants as error
use Rattle.osi_stack.proofs.opening.who_waits_was_requested.{StillWaits, connect_asked, call_asked, feeds_asked, first_asked}
use Rattle.osi_stack.proofs.carried.all_events_are_handled.{session_attended, connect_attended, breaks_attended, feeds_attended}
use Rattle.osi_stack.proofs.each_line.what_stays_true_of_each_session.{session_all, connect_all, call_came, feeds_all, told_all, breaks_all}
use Rattle.osi_stack.proofs.each_line.what_stays_true_of_each_session.{came_asking, came_true, profile_true}
use Rattle.osi_stack.proofs.carried.events_one_after_the_other.{concluded_carrier}
use Rattle.osi_stack.proofs.carried.no_session_is_left_after_the_end.{call_gone, first_gone, breaks_gone, feeds_gone}
use Rattle.osi_stack.proofs.opening.live_connections_have_addresses.{ShownFirst, call_named, named_stays}
use Rattle.osi_stack.proofs.carried.packets_without_events.{both, or_first, or_second, packet_is}
use Rattle.osi_stack.proofs.carried.open_connections_stay_open.{SessionLaws}
use Rattle.osi_stack.proofs.each_line.what_stays_true_of_each_line.{session_lines, feeds_lines, connect_lines, told_lines, breaks_lines}
use Rattle.osi_stack.proofs.each_line.what_stays_true_of_each_line.{line_at}
use Rattle.osi_stack.proofs.each_line.lines_stay_in_order.{fresh_ordered, connect_ordered, call_ordered, feeds_ordered, first_ordered}
use Rattle.osi_stack.proofs.each_line.lines_stay_in_order.{carried_ordered, breaks_ordered}
use Rattle.osi_stack.proofs.sound.the_invariant_is_kept.{Fits, times_fits, up_more, units_rise, packet_rises, open_none, fresh_sound}
use Rattle.osi_stack.proofs.sound.the_invariant_is_kept.{connect_sound, call_sound, feeds_sound, first_sound, carried_sound, breaks_sound}
use Rattle.osi_stack.proofs.sound.the_invariant_is_kept.{hale_kept, IsHale}
use Rattle.osi_stack.proofs.stream.what_feeding_keeps.{IsKeptBeside, feeds_beside}
use Rattle.osi_stack.proofs.carried.what_sessions_leave_of_the_carrier.{session_orderly}

-- ---- calls

pub connect_orderly : (c : Connect) (e : End) → connect_error c e ≡ None → IsOrderly e.carrier → IsOrderly (connects c e).carrier
connect_orderly c e allowed h = search (arith, orderly_asks, open_none)

-- ---- packets

attends_orderly : (e : End) → Fits e → IsOrderly (attends e).carrier
attends_orderly e f = grind (arith, concluded_carrier, times_fits (length e.carrier.events) e f)

packet_orderly : (packet : List ℕ) (e : End) → Fits e → IsOrderly (after_packet e packet).carrier
packet_orderly packet e f = search (arith, after_packet, packet_is, attends_orderly, with_carrier, orderly_packet, up_more, packet_rises)

-- ---- an allocation failure

record Grows (old new : Carrier) : Type 0 where
  orderly : IsOrderly new
  given : old.given ≤ new.given

grows_out : (units : List Value) (old new : Carrier) → carriers.RunsOut old units new → IsOrderly old → Grows old new
grows_out units old new h o =
    grind (arith, orderly_end NoMemory (reacts h.done old) (orderly_units h.done old o), orderly_units h.done old o, units_rise h.done old)

grows_by : (units : Result (List Value) TpduFault) (old new : Carrier) → carriers.ActsBy units old new → IsOrderly old → Grows old new
grows_by (Ok units) old new (inl is) o = grind (arith, orderly_units units old o, units_rise units old)
grows_by (Ok units) old new (inr h) o = search (arith, grows_out)
grows_by (Err fault) old new is o = grind (arith, orderly_end)

grown_fits : (e : End) (c : Carrier) → Grows e.carrier c → Fits e → Fits (with_carrier c e)
grown_fits e c g f = grind (arith, up_more)

starved_orderly : (e new : End) (packet : List ℕ) → Starves e packet new → Fits e → IsOrderly new.carrier
starved_orderly e new packet (inl h) f =
    grind (arith, attends_orderly (with_carrier h.0 e) (grown_fits e h.0 (grows_out h.1.0 e.carrier h.0 h.1.2 f.orderly) f))
starved_orderly e new packet (inr h) f =
    let fits = times_fits h.2.heard (with_carrier h.0 e) (grown_fits e h.0 (grows_by (units_of packet) e.carrier h.0 h.1 f.orderly) f) in
    subst (λ (x : End). IsOrderly x.carrier) (sym h.2.starved)
    (grind (arith, orderly_ended))

-- ---- feeding

orderly_kept : IsKeptBeside IsHale (λ e. IsOrderly e.carrier)
orderly_kept = record {
  each = λ packet e lasts hale o. packet_orderly packet e (grind arith);
  over = λ reason e hale o. orderly_end reason e.carrier o;
  starved = λ packet e new lasts h hale o. starved_orderly e new packet h (grind arith);
}

-- ---- the invariant of every end

-- which functional units a session has
pub record Profiles : Type 0 where
  pub called : HasProfile awaiting
  pub caller : (o : Opening) → is_profile (unit_bits o.requirements) ≡ true → HasProfile (asking o)
  pub kept : (s : Listener) (inputs : List Input) → HasProfile s.state → HasProfile (after_inputs s inputs).state

-- what the laws of one end state
pub record Steps : Type 0 where
  pub laws : SessionLaws
  pub profiles : Profiles
  pub waits : StillWaits
  pub units : (units : Units) → HasNumbersInWords (taken (said_by_units units))
  pub shown : ShownFirst

pub fresh_settled : (is_caller : Bool) (local : Local) → IsSettled (fresh_end is_caller local)
fresh_settled is_caller local = grind (arith, orderly_fresh, fresh_sound, fresh_ordered, fresh_end)

pub connect_settled : Profiles → (c : Connect) (e : End) → connect_error c e ≡ None → IsSettled e → IsSettled (connects c e)
connect_settled profiles c e allowed s = record {
  attended = connect_attended c e s.attended;
  orderly = connect_orderly c e allowed s.orderly;
  sound = connect_sound c e allowed s.sound;
  asks = connect_asked c e s.sound s.asks;
  ordered = connect_ordered c e allowed s.sound s.ordered;
  came = connect_all CameAbout c e (came_asking c) s.came;
  profiled = connect_all IsProfiled c e (grind (arith, profiles.caller (opening_of c) (grind arith))) s.profiled;
  named = connect_lines IsNamed c e (λ k. refl) s.named;
  gone = grind (arith, none_of, free_of, open_none);
}

pub call_settled : Profiles → ShownFirst → SessionLaws → StillWaits →
    ((s : Listener) (call : Call) → (react s (called call)).closes ≡ false) → (r : ℕ) (call : Call) (e : End) → HasSerial call →
    IsSettled e → IsSettled (to_session r (called call) e)
call_settled profiles shown laws waits still r call e serial s = record {
  attended = session_attended r (called call) e s.attended;
  orderly = session_orderly r (called call) e s.orderly;
  sound = call_sound laws r call e s.sound;
  asks = call_asked waits r call e s.asks;
  ordered = call_ordered r (called call) e s.ordered;
  came = call_came r call e serial s.came;
  profiled = session_all IsProfiled r (called call) e (λ x h. profiles.kept x (called call ∷ []) h) s.profiled;
  named = session_lines IsNamed r (called call) e (call_named shown call) s.named;
  gone = call_gone still r call e s.gone;
}

pub feeds_settled : Steps → (old new : Holding) (piece : List ℕ) (fed : Fed) → Feeds old piece fed new → IsSettled old.end →
    IsSettled new.end
feeds_settled steps old new piece fed h s = record {
  attended = feeds_attended old new piece fed h s.attended;
  orderly = grind (arith, feeds_beside, hale_kept, orderly_kept);
  sound = feeds_sound steps.laws old new piece fed h s.attended s.sound;
  asks = feeds_asked steps.laws steps.waits old new piece fed h s.attended s.sound s.asks;
  ordered = feeds_ordered steps.laws old new piece fed h s.attended s.sound s.ordered;
  came = feeds_all CameAbout (came_true steps.units) old new piece fed h s.came;
  profiled = feeds_all IsProfiled (profile_true steps.profiles.kept steps.profiles.called) old new piece fed h s.profiled;
  named = feeds_lines IsNamed (named_stays steps.shown) old new piece fed h s.named;
  gone = feeds_gone old new piece fed h s.gone;
}

pub first_settled : (e : End) → IsSettled e → IsSettled (record e { lines = without_first e.lines })
first_settled e s = search (arith, first_sound, first_asked, first_ordered, told_all, told_lines, first_gone)

pub carried_settled : (octets : ℕ) (e : End) → IsSettled e → IsSettled (carried octets e)
carried_settled octets e s = grind (arith, orderly_same, drop, carried_sound, carried_ordered)

pub breaks_settled : (e : End) → IsSettled e → IsSettled (breaks e)
breaks_settled e s = grind (arith, breaks_attended, breaks_sound, breaks_ordered, breaks_all, breaks_lines, breaks_gone)

-- ---- one session

pub profiled_at : (r : ℕ) (s : Listener) (lines : Rows Line) (o : Option Line) → value_at r lines ≡ o → session_in o ≡ Some s →
    OfSessions IsProfiled lines → HasProfile s.state
profiled_at r s lines None at is all = cc
profiled_at r s lines (Some line) at is all = grind (arith, line_at)

-- ---- after the end

-- no connection is live
pub none_at : (r : ℕ) (e : End) → IsOrderly e.carrier → IsSome e.carrier.ended → session_at r e ≡ None
none_at r e o over = grind arith

-- no call is accepted
pub over_is : (r : ℕ) (call : Call) (e : End) → IsSettled e → IsSome e.carrier.ended → IsSome (call_error r call e)
over_is r call e s over = grind arith

-- ---- for the calls of a stack

pub settled_by : {A F : Type 0} (result : Result A F) (old new next : Holding) → OnOk result (new ≡ next) → OnErr result (new ≡ old) →
    IsSettled old.end → IsSettled next.end →
    IsSettled new.end
settled_by result old new next ok err was is = grind arith

pub settled_connect : {A F : Type 0} (result : Result A F) (c : Connect) (old new : Holding) →
    (connect_error c old.end ≡ None → IsSettled old.end → IsSettled (connects c old.end)) →
    OnOk result (new ≡ record old { end = connects c old.end }) →
    OnOk result (connect_error c old.end ≡ None) → OnErr result (new ≡ old) → IsSettled old.end → IsSettled new.end
settled_connect result c old new settles ok allowed err was = grind arith

-- what is read is fed
pub feeds_of : (old new : Holding) (piece : List ℕ) (used : ℕ) → stops old.end ≡ false → Goes old piece used new → used ≤ length piece →
    (0 < length piece → 0 < used) →
    Feeds old piece (record { used = used; whole = waits new.end.lines }) new
feeds_of old new piece used quiet goes bound progress = grind (arith, both, is_some, or_first, waits, or_second)
