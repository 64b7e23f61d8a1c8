-- Each session of an end is what its own inputs made of what it began as.
use Rattle.osi_stack.proofs.Vocabulary.{eqb-true, eq-eqb, append-nil, AllByRecursion, fresh, IsPartial, ArePackets, Fed, tsap_octets, Local}
use Rattle.osi_stack.proofs.Vocabulary.{beyond, push_here, push_other, OneCut, asks, Happening, told_of, RiseFrom, Rows, value_at}
use Rattle.osi_stack.proofs.Vocabulary.{Connection, State as Carrier, Call as SessionCall, Input, Listener, called, opened as linked_up}
use Rattle.osi_stack.proofs.Vocabulary.{react, after_inputs, awaits, calls_with, connects, call_error, TakesPackets, Goes, opens, hears}
use Rattle.osi_stack.proofs.Vocabulary.{hears_next, hears_times, with_events, with_carrier, after_packet, input_of, inputs_told, Past}
use Rattle.osi_stack.proofs.Vocabulary.{no_past, then_came, inputs_of, made_at, AreMadeBy, told_along, past_called, IsAccepted, serving}
use Rattle.osi_stack.proofs.Vocabulary.{using, Steps, StepsAlong, AreApart, Soundness, IsSound, kept_at, to_session, IsOrdered, UserCall}
use Rattle.osi_stack.proofs.Vocabulary.{user_does, connecting, calling, disconnecting, breaking, disconnect_error, disconnects, put_here}
use Rattle.osi_stack.proofs.Vocabulary.{put_other, by_line, Calls, used_in, feeding, telling, carrying, Line, End, Holding, IsAttended}
use Rattle.osi_stack.proofs.Vocabulary.{fresh_end, used_lines, joins, waits, fresh_line, Connect, told_opened as opened, EndCall as Call}
use Rattle.osi_stack.proofs.Vocabulary.{◌≡◌, ◌≢◌, ℕ, ◌+◌, ◌<◌, ◌≤◌, ◌==◌, Bool, List, ◌∷◌, ◌++◌, length, take, Option, Some, None, is_some}
use Rattle.osi_stack.proofs.Vocabulary.{IsSome, refl, sym, ap, subst, ◌∙◌, inl, inr, ◌⊎◌, arith, append_assoc, option_map, [], gives_up_by}
use Rattle.osi_carrier.specs.Packets as carriers
use Rattle.osi_session.specs.Listening.{broken as linked_down}
use Rattle.osi_stack.specs.Inputs.{Step}
use Rattle.osi_stack.proofs.carried.all_events_are_handled.{session_attended, connect_attended, feeds_attended}
use Rattle.osi_stack.proofs.stream.what_was_written_is_read.{attended_then}
use Rattle.osi_stack.proofs.given_up.the_invariant_stays.{disconnect_attended, disconnect_is, disconnect_ordered, disconnect_sound}
use Rattle.osi_stack.proofs.carried.events_one_after_the_other.{concluded_carrier}
use Rattle.osi_stack.proofs.carried.packets_without_events.{both, packet_is, lasting_of, never}
use Rattle.osi_stack.proofs.carried.open_connections_stay_open.{SessionLaws, session_hears, hears_apart, used_at, apart_push, joined_lines}
use Rattle.osi_stack.proofs.carried.open_connections_stay_open.{first_is, rest_is, Stays}
use Rattle.osi_stack.proofs.carried.what_a_move_leaves.{kept_first, says_is}
use Rattle.osi_stack.proofs.opening.connections_that_units_open.{IsGiven, Comes, OpensAlong, all_still}
use Rattle.osi_stack.proofs.each_line.lines_stay_in_order.{HasLine, HaveLines, have_still, one_heard, awaited_lines, packet_along}
use Rattle.osi_stack.proofs.each_line.lines_stay_in_order.{packet_ordered, connect_ordered, call_ordered, feeds_ordered, first_ordered}
use Rattle.osi_stack.proofs.each_line.lines_stay_in_order.{fresh_ordered}
use Rattle.osi_stack.proofs.stream.an_end_is_what_its_packets_make.{call_lasts, reads_dry, reads_stopped, none_ended}
use Rattle.osi_stack.proofs.sound.the_invariant_is_kept.{concludes_lasting, packet_sound, connect_sound, call_sound, feeds_sound}
use Rattle.osi_stack.proofs.sound.the_invariant_is_kept.{first_sound, fresh_sound, closed_given}
use Rattle.osi_stack.proofs.carried.what_sessions_leave_of_the_carrier.{times_leave, session_keeps}

-- ---- inputs

inputs_more : (r : ℕ) (l m : List (ℕ × Input)) → inputs_of r (l ++ m) ≡ inputs_of r l ++ inputs_of r m
inputs_more r [] m = refl
inputs_more r ((q, input) ∷ l) m = grind (arith, inputs_more r l m)

after_more : (s : Listener) (l m : List Input) → after_inputs s (l ++ m) ≡ after_inputs (after_inputs s l) m
after_more s [] m = refl
after_more s (input ∷ l) m = after_more (react s input).next l m

-- ---- what is known of the sessions

-- each is what its inputs made of it, and above this reference nothing has happened
pub record IsKnown (g : ℕ) (past : Past) (lines : Rows Line) : Type 0 where
  pub made : (r : ℕ) (s : Listener) → kept_at r lines ≡ Some s → s ≡ made_at r past
  pub unasked : (r : ℕ) → g < r → value_at r past.asked ≡ None
  pub unheard : (r : ℕ) → g < r → inputs_of r past.inputs ≡ []

-- one more input, of a reference that was given
unheard_more : (g q : ℕ) (input : Input) (past : Past) → ((r : ℕ) → g < r → inputs_of r past.inputs ≡ []) → (r : ℕ) → g < r → r ≢ q →
    inputs_of r (then_came ((q, input) ∷ []) past).inputs ≡ []
unheard_more g q input past none r above ne = grind (arith, inputs_more)

session_made : (q : ℕ) (input : Input) (e : End) (past : Past) →
    ((r : ℕ) (s : Listener) → kept_at r e.lines ≡ Some s → s ≡ made_at r past) →
    (r : ℕ) (s : Listener) → kept_at r (to_session q input e).lines ≡ Some s → s ≡ made_at r (then_came ((q, input) ∷ []) past)
session_made q input e past made r s is = grind (arith, session_hears q input e, eqb-true, both, eq-eqb, inputs_more, after_more)

-- a session of a reference that was given
given_known : (g q : ℕ) (input : Input) (e : End) (past : Past) → q ≤ g → IsKnown g past e.lines →
    IsKnown g (then_came ((q, input) ∷ []) past) (to_session q input e).lines
given_known g q input e past up k = record {
  made = session_made q input e past k.made;
  unasked = k.unasked;
  unheard = λ r above. unheard_more g q input past k.unheard r above (λ same. absurd (omega arith));
}

-- ---- a new session

pub kept_joined : (q r : ℕ) (s t : Listener) (live : Rows Connection) (lines : Rows Line) (b : Bool) → (q == r) ≡ b →
    value_at q lines ≡ None → Stays r live (joined_lines q s lines) →
    kept_at r (used_lines live (joined_lines q s lines)) ≡ Some t → ((q ≡ r) × (t ≡ s)) ⊎ ((q ≡ r → ⊥) × (kept_at r lines ≡ Some t))
kept_joined q r s t live lines b at none h is = grind (arith, eqb-true, push_here, joined_lines, both, eq-eqb, push_other)

awaits_still : (react awaits linked_up).next ≡ awaits
unfolding react
awaits_still = refl

joins_known : (g q : ℕ) (e : End) (past : Past) → g < q → AreApart e.lines → value_at q e.lines ≡ None → IsKnown g past e.lines →
    IsKnown q (then_came ((q, linked_up) ∷ []) past) (joins q awaits e).lines
joins_known g q e past above apart none k = record {
  made = λ r t is. elim (kept_joined q r awaits t e.carrier.live e.lines (q == r) refl none
      (used_at r e.carrier.live (joined_lines q awaits e.lines) (apart_push q (fresh_line awaits) e.lines none apart)) is) [
        | inl h ↦ grind (arith, react, awaits_still, inputs_more, after_more)
        | inr h ↦ k.made r t h.1 ∙ sym (grind (arith, inputs_more, after_more))
      ];
  unasked = λ r up. k.unasked r (omega arith);
  unheard = λ r up. unheard_more g q linked_up past k.unheard r (omega arith) (λ same. absurd (omega arith));
}

-- ---- one event

-- a connection that was opened, and is new
new_known : (g q : ℕ) (o : Option Line) (e : End) (past : Past) → value_at q e.lines ≡ o → g < q → AreApart e.lines →
    IsKnown g past e.lines →
    IsKnown q (then_came ((q, linked_up) ∷ []) past) (opens q o e).lines
new_known g q None e past here above apart k = joins_known g q e past above apart here k
new_known g q (Some line) e past here above apart k = record {
  made = session_made q linked_up e past k.made;
  unasked = λ r up. k.unasked r (omega arith);
  unheard = λ r up. unheard_more g q linked_up past k.unheard r (omega arith) (λ same. absurd (omega arith));
}

-- one that has a line
line_known : (g q : ℕ) (o : Option Line) (e : End) (past : Past) → value_at q e.lines ≡ o → IsSome o → q ≤ g → IsKnown g past e.lines →
    IsKnown g (then_came ((q, linked_up) ∷ []) past) (opens q o e).lines
line_known g q o e past here some up k = grind (arith, given_known)

-- ---- all events

next_known : (g : ℕ) (event : Happening) (rest : List Happening) (e : End) (past : Past) → e.carrier.events ≡ event ∷ rest →
    IsKnown g past (hears event (with_events rest e)).lines → IsKnown g past (hears_next e).lines
next_known g event rest e past is k = grind (arith, first_is event rest e is)

behind_known : (g : ℕ) (event : ℕ × Input) (more : List (ℕ × Input)) (past : Past) (lines : Rows Line) →
    IsKnown g (then_came more (then_came (event ∷ []) past)) lines →
    IsKnown g (then_came (event ∷ more) past) lines
behind_known g event more past lines k = grind (arith, append_assoc)

none_known : (g : ℕ) (past : Past) (lines : Rows Line) → IsKnown g past lines → IsKnown g (then_came [] past) lines
none_known g past lines k = grind (arith, append-nil)

times_caller : (g : ℕ) (l : List Happening) (e : End) (past : Past) → e.carrier.events ≡ l → AllByRecursion (IsGiven g) l →
    HaveLines e.lines l → RiseFrom 0 e.lines →
    IsKnown g past e.lines → IsKnown g (then_came (inputs_told l) past) (hears_times (length l) e).lines
times_caller g [] e past is up all rise k = none_known g past e.lines k
times_caller g (event ∷ rest) e past is up all rise k =
    let at = first_is event rest e is in
    let one = one_heard event rest (with_events rest e) all rise in
    let risen : RiseFrom 0 (hears_next e).lines = subst (λ (x : End). RiseFrom 0 x.lines) (sym at) one.rise in
    let kept : (r : ℕ) → IsSome (value_at r e.lines) → IsSome (value_at r (hears_next e).lines) =
    λ r some. subst (λ (x : End). IsSome (value_at r x.lines)) (sym at) (one.kept r some) in
    let entry : ℕ × Input = (told_of event, input_of event) in
    let now = next_known g event rest e (then_came (entry ∷ []) past) is (grind (arith, line_known, given_known)) in
    behind_known g entry (inputs_told rest) past (hears_times (length rest) (hears_next e)).lines
    (times_caller g rest (hears_next e) (then_came (entry ∷ []) past) (rest_is event rest e is) up.1
    (all_still (HasLine e.lines) (HasLine (hears_next e).lines) rest (have_still e.lines (hears_next e).lines kept) all.1) risen now)

next_apart : (event : Happening) (rest : List Happening) (e : End) → e.carrier.events ≡ event ∷ rest → AreApart e.lines →
    AreApart (hears_next e).lines
next_apart event rest e is apart = grind (arith, first_is, hears_apart)

times_called : (g h : ℕ) (l : List Happening) (e : End) (past : Past) → e.carrier.events ≡ l → Comes g l h → AreApart e.lines →
    IsKnown g past e.lines →
    IsKnown h (then_came (inputs_told l) past) (hears_times (length l) e).lines
times_called g h [] e past is comes apart k = grind (arith, none_known)
times_called g h (opened r ∷ rest) e past is comes apart k =
    behind_known h _ (inputs_told rest) past _
    (times_called r h rest (hears_next e) _ (rest_is (opened r) rest e is) comes.1 (next_apart (opened r) rest e is apart)
    (next_known r (opened r) rest e _ is (new_known g r (value_at r e.lines) (with_events rest e) past refl comes.0 apart k)))
times_called g h (event ∷ rest) e past is comes apart k =
    behind_known h _ (inputs_told rest) past _
    (times_called g h rest (hears_next e) _ (rest_is event rest e is) comes.1 (next_apart event rest e is apart)
    (next_known g event rest e _ is (given_known g (told_of event) _ (with_events rest e) past comes.0 k)))

heard_by : (b : Bool) (e : End) (c : Carrier) (past : Past) → e.carrier.is_caller ≡ b → e.carrier.events ≡ [] → Soundness e → IsOrdered e →
    OpensAlong e.carrier c →
    IsKnown e.carrier.given past e.lines →
    IsKnown c.given (then_came (inputs_told c.events) past) (hears_times (length c.events) (with_carrier c e)).lines
heard_by b e c past side none s o a k = grind (arith, times_caller, awaited_lines, both, times_called)

-- ---- packets

packet_made : (packet : List ℕ) (e : End) (past : Past) → e.carrier.events ≡ [] → Soundness e → IsOrdered e →
    (after_packet e packet).carrier.ended ≡ None → IsKnown e.carrier.given past e.lines →
    IsKnown (after_packet e packet).carrier.given (then_came (inputs_told (carriers.after_packet e.carrier packet).events) past)
    (after_packet e packet).lines
packet_made packet e past none s o over k =
    let c = carriers.after_packet e.carrier packet in
    let given = (times_leave (length c.events) (with_carrier c e)).given in
    grind (arith, packet_is, concluded_carrier, concludes_lasting, given, heard_by, packet_along)

takes_last : (units : List (List ℕ)) (e new : End) → TakesPackets e units new → new.carrier.ended ≡ None → e.carrier.ended ≡ None
takes_last [] e new h lasts = ap (λ (x : End). x.carrier.ended) (sym h) ∙ lasts
takes_last (u ∷ units) e new h lasts = lasting_of e.carrier.ended (waits e.lines) h.0

packets_made : SessionLaws → (units : List (List ℕ)) (old new : End) (past : Past) → TakesPackets old units new → IsAttended old →
    IsSound old → IsOrdered old → new.carrier.ended ≡ None →
    IsKnown old.carrier.given past old.lines → IsKnown new.carrier.given (then_came (told_along old units) past) new.lines
packets_made laws [] old new past h attended sound o over k = grind (arith, none_known)
packets_made laws (u ∷ units) old new past h attended sound o over k =
    let lasts = lasting_of old.carrier.ended (waits old.lines) h.0 in
    let next = after_packet old u in
    let first = inputs_told (carriers.after_packet old.carrier u).events in
    let now = packet_made u old past (attended lasts) (sound lasts) o (takes_last units next new h.1 over) k in
    subst (λ (p : Past). IsKnown new.carrier.given p new.lines) (grind (arith, append_assoc))
    (packets_made laws units next new (then_came first past) h.1
    (attended_then (with_carrier (carriers.after_packet old.carrier u) old) next (packet_is old u))
    (packet_sound laws u old lasts (attended lasts) sound) (packet_ordered u old (attended lasts) (sound lasts) o) over now)

-- ---- a call that feeds, tells or carries

pub record IsSane (e : End) : Type 0 where
  pub attended : IsAttended e
  pub sound : IsSound e
  pub ordered : IsOrdered e

-- the packets that acted in it
record Served (old : Holding) (call : Call) (new : Holding) : Type 0 where
  packets : List (List ℕ)
  cut : ArePackets packets (old.held.octets ++ used_in call) new.held.octets
  partial : IsPartial old.held.octets → IsPartial new.held.octets
  known : (past : Past) → IsKnown old.end.carrier.given past old.end.lines →
      IsKnown new.end.carrier.given (then_came (told_along old.end packets) past) new.end.lines

served_goes : SessionLaws → IsPartial [] → (old : Holding) (piece : List ℕ) (fed : Fed) (new : Holding) → Goes old piece fed.used new →
    IsSane old.end → new.end.carrier.ended ≡ None →
    Served old (feeding piece fed) new
unfolding reads_dry reads_stopped
served_goes laws nothing old piece fed new (inl (inl dry)) s lasts =
    search (arith, packets_made, feeding piece fed, reads_dry old piece fed new dry, dry.taken)
served_goes laws nothing old piece fed new (inl (inr stop)) s lasts =
    search (arith, packets_made, feeding piece fed, reads_stopped nothing old piece fed new stop lasts, stop.taken)
served_goes laws nothing old piece fed new (inr (inl fault)) s lasts = grind (arith, never)
served_goes laws nothing old piece fed new (inr (inr starved)) s lasts = never new.end (none_ended old piece fed.used new starved) lasts

-- no octet was used, and no session received anything
served_still : (old : Holding) (call : Call) (new : Holding) → used_in call ≡ [] → new.held.octets ≡ old.held.octets →
    new.end.carrier.given ≡ old.end.carrier.given →
    ((r : ℕ) → kept_at r new.end.lines ≡ kept_at r old.end.lines) → Served old call new
served_still old call new none held given same = record {
  packets = [];
  cut = ap (λ l. old.held.octets ++ l) none ∙ append-nil old.held.octets ∙ sym held;
  partial = subst IsPartial (sym held);
  known = λ past k. none_known new.end.carrier.given past new.end.lines (grind arith);
}

served : SessionLaws → IsPartial [] → (old : Holding) (call : Call) (new : Holding) → Calls old call new → IsSane old.end →
    new.end.carrier.ended ≡ None → Served old call new
served laws nothing old (feeding piece fed) new h s lasts =
    grind (arith, served_still, feeding, take, kept_at, served_goes, is_some, waits, call_lasts old (feeding piece fed) new h lasts)
served laws nothing old (telling shown) new h s lasts = grind (arith, served_still, kept_first)
served laws nothing old (carrying octets) new h s lasts = grind (arith, served_still)

-- ---- an end keeps its invariant

pub sane_served : SessionLaws → (old : Holding) (call : Call) (new : Holding) → Calls old call new → IsSane old.end → IsSane new.end
sane_served laws old (feeding piece fed) new h s = grind (arith, feeds_attended, feeds_sound, feeds_ordered)
sane_served laws old (telling shown) new h s = subst (λ (x : Holding). IsSane x.end) (sym h.1) (search (arith, first_sound, first_ordered))
sane_served laws old (carrying octets) new h s = grind arith

pub sane_call : SessionLaws → (r : ℕ) (call : SessionCall) (e : End) → IsSane e → IsSane (to_session r (called call) e)
sane_call laws r call e s = search (arith, session_attended, call_sound, call_ordered)

-- ---- a call of the user

connect_known : (c : Connect) (e : End) (past : Past) → Soundness e → IsKnown e.carrier.given past e.lines →
    IsKnown (e.carrier.given + 1) (past_called (connecting c) e past) (connects c e).lines
connect_known c e past s k =
    let q = e.carrier.given + 1 in
    let none : value_at q e.lines ≡ None = beyond q e.carrier.given e.lines s.known (omega arith) in
    let live = (asks (option_map tsap_octets c.calling_tsap) (option_map tsap_octets c.called_tsap) e.carrier).live in
    let stays = (λ (r : ℕ). used_at r live (joined_lines q (calls_with c) e.lines)
    (apart_push q (fresh_line (calls_with c)) e.lines none s.apart)) in
    record {
      made = λ r t is. elim (kept_joined q r (calls_with c) t live e.lines (q == r) refl none (stays r) is) [
        | inl h ↦ grind (arith, push_here)
        | inr h ↦ k.made r t h.1 ∙ sym (grind (arith, push_other))
      ];
      unasked = λ r up. push_other r q c past.asked (λ same. absurd (omega arith)) ∙ k.unasked r (omega arith);
      unheard = λ r up. k.unheard r (omega arith);
    }

call_known : (r : ℕ) (call : SessionCall) (e : End) (past : Past) → call_error r call e ≡ None → Soundness e →
    IsKnown e.carrier.given past e.lines →
    IsKnown (to_session r (called call) e).carrier.given (past_called (calling r call) e past) (to_session r (called call) e).lines
call_known r call e past allowed s k = search (arith, given_known, says_is r call e allowed, (session_keeps r (called call) e).leaves.given)

given_same : (r : ℕ) (e : End) (o : Option Line) → value_at r e.lines ≡ o → (q : ℕ) →
    kept_at q (gives_up_by r o e.lines) ≡ kept_at q (by_line r o linked_down e).lines
given_same r e o here q = grind (arith, eqb-true, put_here, both, eq-eqb, put_other)

disconnect_known : (r : ℕ) (e : End) (past : Past) → disconnect_error r e ≡ None → (disconnects r e).carrier.ended ≡ None →
    IsKnown e.carrier.given past e.lines →
    IsKnown (disconnects r e).carrier.given (past_called (disconnecting r) e past) (disconnects r e).lines
disconnect_known r e past allowed lasts k = search (arith, closed_given, given_known, disconnect_is, given_same)

-- ---- steps

record IsRun (h : Holding) (past : Past) : Type 0 where
  sane : IsSane h.end
  partial : IsPartial h.held.octets
  known : IsKnown h.end.carrier.given past h.end.lines

used_run : SessionLaws → (call : UserCall) (old : Holding) (before : Past) → old.end.carrier.ended ≡ None → IsAccepted call old.end →
    (user_does call old.end).carrier.ended ≡ None →
    IsRun old before → IsRun (record old { end = user_does call old.end }) (past_called call old.end before)
used_run laws (connecting c) old before quiet allowed lasts run =
    search (connect_attended, connect_sound, connect_ordered, connect_known c old.end before (run.sane.sound quiet) run.known)
used_run laws (calling r call) old before quiet allowed lasts run = grind (arith, sane_call, call_known)
used_run laws (disconnecting r) old before quiet allowed lasts run =
    grind (arith, disconnect_attended, disconnect_sound, disconnect_ordered, disconnect_known)
used_run laws breaking old before quiet allowed lasts run = grind (arith, never)

step_run : SessionLaws → IsPartial [] → OneCut → (step : Step) (old new : Holding) (before behind : Past) →
    Steps old before step new behind → new.end.carrier.ended ≡ None →
    IsRun old before → IsRun new behind
step_run laws nothing one_cut (serving call packets) old new before behind h lasts run =
    grind (arith, served laws nothing old call new h.0 run.sane lasts, sane_served laws old call new h.0 run.sane)
step_run laws nothing one_cut (using call) old new before behind h lasts run = grind (arith, used_run laws call old before h.0 h.1)

steps_last : (steps : List Step) (old new : Holding) (before behind : Past) → StepsAlong old before steps new behind →
    new.end.carrier.ended ≡ None → old.end.carrier.ended ≡ None
steps_last [] old new before behind h lasts = ap (λ (x : Holding). x.end.carrier.ended) (sym h.0) ∙ lasts
steps_last (step ∷ steps) old new before behind h lasts = grind (arith, steps_last steps h.0 new h.1 behind h.3 lasts)

steps_run : SessionLaws → IsPartial [] → OneCut → (steps : List Step) (old new : Holding) (before behind : Past) →
    StepsAlong old before steps new behind → new.end.carrier.ended ≡ None →
    IsRun old before → IsRun new behind
steps_run laws nothing one_cut [] old new before behind h lasts run = grind arith
steps_run laws nothing one_cut (step ∷ steps) old new before behind h lasts run =
    search (
      arith,
      steps_run laws nothing one_cut steps h.0 new h.1 behind h.3 lasts,
      step_run laws nothing one_cut step old h.0 before h.1 h.2,
      steps_last steps h.0 new h.1 behind h.3 lasts,
    )

pub made_along : SessionLaws → IsPartial [] → OneCut →
    (is_caller : Bool) (local : Local) (steps : List Step) (new : Holding) (past : Past) →
    StepsAlong (record { end = fresh_end is_caller local; held = fresh }) no_past steps new past → new.end.carrier.ended ≡ None →
    AreMadeBy past new.end
made_along laws nothing one_cut is_caller local steps new past h lasts = grind (arith, steps_run, fresh_sound, fresh_ordered)
