-- Over every list of steps the tables do what the machine does.
-- For the law of the same name, and for all laws of the tables.
use Rattle.osi_machine.proofs.Vocabulary.{AllByRecursion, slice_get, taken, said_of, Call, HasSerial, Meaning, allowed, Offer, Side, Class}
use Rattle.osi_machine.proofs.Vocabulary.{class_2, Message, unit, Transport, linked, World, session_of, after_answer, Taking}
use Rattle.osi_machine.proofs.Vocabulary.{unit_taken, Terms, message_taken, Ending, Refusal, Step, connects, calls, delivers, breaks, ends}
use Rattle.osi_machine.proofs.Vocabulary.{Entry, connect_answered, shown_at, Machine, start, connection_at, replaced, seen_from, end_of}
use Rattle.osi_machine.proofs.Vocabulary.{stays, noted, is_given, transport_of, asked_in, call_in, side_of, ended_worlds, shown_in_order}
use Rattle.osi_machine.proofs.Vocabulary.{marked_ended, after_end, closes_by, after_taking, without_first, learns, taken_in, delivered_to}
use Rattle.osi_machine.proofs.Vocabulary.{cut_channels, step, run, HasNumber, Line, Turn, Tables, Told, ◌≡◌, refl, sym, subst, ℕ, zero, suc}
use Rattle.osi_machine.proofs.Vocabulary.{◌+◌, Bool, if◌then◌else◌, List, [], ◌∷◌, ◌++◌, map, Option, Some, None, is_some, inl, inr, arith}
use Rattle.osi_machine.specs.Machine.{ends_there}
use Rattle.osi_machine.proofs.basics.what_holds_in_each_phase.{by_test}
use Rattle.osi_machine.proofs.invariant.each_step_keeps_one_side.{SessionLaws}
use Rattle.osi_machine.proofs.whole.every_stage_of_a_connection.{Stage, opening_refuses}
use Rattle.osi_machine.proofs.machine.every_connection_of_a_run.{IsGood, step_good, stage_at, none_yet}
use Rattle.osi_machine.proofs.tables.a_line_is_a_connection.{line_of, AreSeated, Tabled, TurnTabled, turned_tabled, call_tabled}
use Rattle.osi_machine.proofs.tables.a_line_is_a_connection.{refused_tabled, error_as, SaysItsUnit, unit_tabled, message_tabled}
use Rattle.osi_machine.proofs.tables.a_line_is_a_connection.{close_tabled, shown_as, end_tabled, new_tabled}
use Rattle.osi_machine.specs.Tables as tables

-- ---- all connections

pub data AllTabled : List Line → List World → Type 0 where
  none : AllTabled [] []
  more : {l : Line} {w : World} {ls : List Line} {ws : List World} → Tabled l w → AllTabled ls ws → AllTabled (l ∷ ls) (w ∷ ws)

-- the tables with these connections
abbrev pub tables_of : Machine → List Line → Tables
tables_of m ls = record {
  terms = m.terms;
  broken = m.broken;
  left_end = m.left_end;
  right_end = m.right_end;
  known = m.known;
  lines = ls;
  journal = m.journal;
}

pub record Follows (t : Tables) (m : Machine) : Type 0 where
  pub lines : List Line
  pub all : AllTabled lines m.worlds
  pub same : t ≡ tables_of m lines

-- at one place
abbrev pub At : Option Line → Option World → Type 0
At None None = Unit {0}
At (Some l) (Some w) = Tabled l w
At None (Some w) = ⊥
At (Some l) None = ⊥

got_at : {ls : List Line} {ws : List World} → (r : ℕ) → AllTabled ls ws → At (slice_get ls r) (slice_get ws r)
got_at r none = tt
got_at zero (more h k) = h
got_at (suc r) (more h k) = got_at r k

pub line_there : (ls : List Line) (ws : List World) (r : ℕ) → AllTabled ls ws → At (connection_at r ls) (connection_at r ws)
line_there ls ws r h = grind (arith, got_at)

replaced_tabled : {ls : List Line} {ws : List World} → (r : ℕ) (l : Line) (w : World) → Tabled l w → AllTabled ls ws
    → AllTabled (replaced r l ls) (replaced r w ws)
replaced_tabled r l w h none = none
replaced_tabled zero l w h (more x k) = more h k
replaced_tabled (suc r) l w h (more x k) = more x (replaced_tabled r l w h k)

side_tabled : (side : Side) (l : Line) (w : World) → Tabled l w → Tabled (tables.seen_from side l) (seen_from side w)
side_tabled side l w h = search (arith, turned_tabled)

appended : {ls : List Line} {ws : List World} → (l : Line) (w : World) → Tabled l w → AllTabled ls ws
    → AllTabled (ls ++ l ∷ []) (ws ++ w ∷ [])
appended l w h none = more h none
appended l w h (more x k) = more x (appended l w h k)

-- ---- a side as it was left

stays_follows : (m : Machine) (ls : List Line) (side : Side) (r : ℕ) (l : Line) (w : World) (es : List Entry) → AllTabled ls m.worlds
    → Tabled l w
    → Follows (tables.noted es (tables.stays (tables_of m ls) side r l)) (noted es (stays m side r w))
stays_follows m ls side r l w es k h = grind (arith, replaced_tabled, side_tabled)

-- ---- a connection is requested

transports_as : {ls : List Line} {ws : List World} → AllTabled ls ws → map tables.transport_of ls ≡ map transport_of ws
transports_as none = refl
transports_as (more h k) = grind (arith, transports_as k)

asked_follows : (m : Machine) (ls : List Line) (o : Offer) (a : Option Refusal) → AllTabled ls m.worlds
    → Follows (tables.noted (connect_answered o a ∷ []) (tables.asked_in (tables_of m ls) o a))
    (noted (connect_answered o a ∷ []) (asked_in m o a))
asked_follows m ls o a k = search (arith, appended, new_tabled)

-- ---- a call

stage_call : SessionLaws → (side : Side) (m : Machine) (w : World) (t u : Told) (first second : Option Meaning) (c : Call) → HasSerial c
    → Stage side m w t u → AreSeated w first second
    → Tabled (tables.after_call m.broken c (line_of w first second)) (after_answer m.broken c w (allowed (session_of w) c))
stage_call laws side m w t u first second c small (inl h) s =
    refused_tabled m.broken w first second c (opening_refuses side m w t u c h) s
stage_call laws side m w t u first second c small (inr h) s = call_tabled m.broken w first second laws t u c small h.1 s

if_follows : (b : Bool) (t t' : Tables) (m m' : Machine) → Follows t m → Follows t' m' → Follows (if b then t else t') (if b then m else m')
if_follows b t t' m m' h k = grind arith

line_call : SessionLaws → (m : Machine) (ls : List Line) (side : Side) (r : ℕ) (c : Call) → HasSerial c → AllTabled ls m.worlds
    → (l : Line) (w : World) (t u : Told) → Tabled l w → Stage side m w t u
    → Follows (tables.call_in (tables_of m ls) side r c (Some l)) (call_in m side r c (Some w))
line_call laws m ls side r c small k l w t u h p =
    grind (
      arith,
      if_follows,
      stays_follows,
      line_of w h.first h.second,
      error_as (session_of w) h.first c,
      stage_call laws side m w t u h.first h.second c small p h.seated,
    )

call_follows : SessionLaws → (m : Machine) (ls : List Line) (side : Side) (r : ℕ) (c : Call) → HasSerial c
    → AllTabled ls m.worlds → IsGood m
    → (a : Option Line) (b : Option World) → connection_at r m.worlds ≡ b → At a b
    → Follows (tables.call_in (tables_of m ls) side r c (tables.side_of side a)) (call_in m side r c (side_of side b))
call_follows laws m ls side r c small k g None None e h = record { lines = ls; all = k; same = refl }
call_follows laws m ls side r c small k g (Some l) (Some w) e h = line_call laws m ls side r c small k _ _ _ _
    (side_tabled side l w h) (stage_at m g side r w e)
call_follows laws m ls side r c small k g _ _ e h = absurd h

-- ---- the end of a side

ends_tabled : (keep : ℕ) (w : World) (a b : Option Meaning) → AreSeated w a b
    → Tabled (tables.ends_there keep (line_of w a b)) (ends_there keep w)
ends_tabled keep w a b h = by_test (is_given w.own.transport)
    (λ e. rw e (end_tabled keep w a b h))
    (λ e. rw e (record { first = a; second = b; same = refl; seated = h }))

ended_tabled : {ls : List Line} {ws : List World} → (side : Side) (keep : ℕ → ℕ) (r : ℕ) → AllTabled ls ws
    → AllTabled (tables.ended_lines side keep r ls) (ended_worlds side keep r ws)
ended_tabled side keep r none = none
ended_tabled side keep r (more {l = l} {w = w} h k) =
    let v = side_tabled side l w h in
    more (side_tabled side (tables.ends_there (keep r) (tables.seen_from side l)) (ends_there (keep r) (seen_from side w))
    (grind (arith, ends_tabled (keep r) (seen_from side w) v.first v.second v.seated))) (ended_tabled side keep (r + 1) k)

shown_tabled : {ls : List Line} {ws : List World} → (side : Side) (r : ℕ) → AllTabled ls ws
    → tables.shown_in_order side r ls ≡ shown_in_order side r ws
shown_tabled side r none = refl
shown_tabled side r (more {l = l} {w = w} h k) = grind (arith, shown_as, side_tabled side l w h, shown_tabled side (r + 1) k)

marked_follows : (side : Side) (e : Ending) (t : Tables) (m : Machine) → Follows t m
    → Follows (tables.marked_ended side e t) (marked_ended side e m)
marked_follows side e t m h = grind arith

end_follows : (side : Side) (e : Ending) (keep : ℕ → ℕ) (t : Tables) (m : Machine) → Follows t m
    → Follows (tables.after_end side e keep t) (after_end side e keep m)
end_follows side e keep t m h = grind (arith, marked_follows, ended_tabled, shown_tabled)

-- ---- a delivery

still : (m : Machine) (ls : List Line) (side : Side) (r : ℕ) (k : Taking) (first second : Option Meaning) → AllTabled ls m.worlds
    → AreSeated k.world first second
    → Follows (tables.stays (tables_of m ls) side r (line_of k.world first second)) (stays m side r k.world)
still m ls side r k first second h s = grind (arith, line_of, replaced_tabled, side_tabled)

closes_follows : (m : Machine) (ls : List Line) (side : Side) (r : ℕ) (keep : ℕ → ℕ) (k : Taking) (first second : Option Meaning)
    (known : Option Class) → AllTabled ls m.worlds → AreSeated k.world first second
    → Follows (tables.closes_by known (tables_of m ls) side r keep (line_of k.world first second)) (closes_by known m side r keep k)
closes_follows m ls side r keep k first second (Some class_2) h s =
    grind (arith, replaced_tabled, side_tabled, line_of k.world first second, close_tabled m.broken k.world first second (keep r) s)
closes_follows m ls side r keep k first second _ h s = search (arith, end_follows, line_of, still)

turn_follows : (m : Machine) (ls : List Line) (side : Side) (r : ℕ) (keep : ℕ → ℕ) (x : Turn) (k : Taking) → AllTabled ls m.worlds
    → TurnTabled x k
    → Follows (tables.after_turn (tables_of m ls) side r keep x) (after_taking m side r keep k)
turn_follows m ls side r keep x k h t =
    subst (λ (y : Turn). Follows (tables.after_turn (tables_of m ls) side r keep y) (after_taking m side r keep k)) (sym t.same)
    (if_follows k.closes _ _ _ _
    (closes_follows (noted (map (shown_at side r) k.shown) m) ls side r keep k t.first t.second m.known h t.seated)
    (search (arith, stays_follows, line_of)))

-- a message, at any stage
stage_unit : SessionLaws → SaysItsUnit → (side : Side) (m : Machine) (w : World) (t u : Told) (first second : Option Meaning) (v : Meaning)
    (ms : List Message) → Stage side m w t u → w.peer.channel ≡ unit v ∷ ms → w.own.transport ≡ linked → AreSeated w first second
    → TurnTabled (tables.hears m.broken linked (taken (said_of v)) (line_of (without_first w ms) first second))
    (unit_taken m.broken (without_first w ms) v)
stage_unit laws says side m w t u first second v ms (inl h) e l s = absurd (grind arith)
stage_unit laws says side m w t u first second v ms (inr h) e l s = unit_tabled m.broken w first second laws says t u v ms h.1 e l s

stage_message : SessionLaws → SaysItsUnit → (side : Side) (m : Machine) (keep : ℕ) (w : World) (t u : Told) (first second : Option Meaning)
    (ms : List Message) (tr : Transport) (x : Message)
    → Stage side m w t u → w.peer.channel ≡ x ∷ ms → w.own.transport ≡ tr → AreSeated w first second
    → TurnTabled (tables.message_taken m.broken m.terms keep tr (line_of (without_first w ms) first second) x)
    (message_taken m.broken m.terms keep tr (without_first w ms) x)
stage_message laws says side m keep w t u first second ms linked (unit v) p e l s =
    stage_unit laws says side m w t u first second v ms p e l s
stage_message laws says side m keep w t u first second ms tr x p e l s = search (arith, message_tabled)

taken_follows : SessionLaws → SaysItsUnit → (m : Machine) (ls : List Line) (side : Side) (r : ℕ) (keep : ℕ → ℕ) (w : World)
    (first second : Option Meaning) (t u : Told) → AllTabled ls m.worlds
    → Stage side m w t u → AreSeated w first second → (ms : List Message) → w.peer.channel ≡ ms
    → Follows (tables.taken_in (tables_of m ls) side r keep (line_of w first second) ms) (taken_in m side r keep w ms)
taken_follows laws says m ls side r keep w first second t u k p s [] e = record { lines = ls; all = k; same = refl }
taken_follows laws says m ls side r keep w first second t u k p s (x ∷ xs) e =
    turn_follows (record m { known = learns m.terms w.own.transport x m.known }) ls side r keep _ _ k
    (stage_message laws says side m (keep r) w t u first second xs w.own.transport x p e refl s)

delivery_follows : SessionLaws → SaysItsUnit → (m : Machine) (ls : List Line) (side : Side) (r : ℕ) (keep : ℕ → ℕ)
    → AllTabled ls m.worlds → IsGood m
    → (a : Option Line) (b : Option World) → connection_at r m.worlds ≡ b → At a b
    → Follows (tables.delivered_to (tables_of m ls) side r keep (tables.side_of side a)) (delivered_to m side r keep (side_of side b))
delivery_follows laws says m ls side r keep k g None None e h = record { lines = ls; all = k; same = refl }
delivery_follows laws says m ls side r keep k g (Some l) (Some w) e h =
    let v = seen_from side w in
    let t = side_tabled side l w h in
    subst (λ (x : Line). Follows (tables.taken_in (tables_of m ls) side r keep x x.peer.channel) (taken_in m side r keep v v.peer.channel))
    (sym t.same)
    (taken_follows laws says m ls side r keep v t.first t.second _ _ k (stage_at m g side r w e) t.seated v.peer.channel refl)
delivery_follows laws says m ls side r keep k g _ _ e h = absurd h

-- ---- a break

cut_tabled : {ls : List Line} {ws : List World} → (left right : ℕ → ℕ) (r : ℕ) → AllTabled ls ws
    → AllTabled (tables.cut_channels left right r ls) (cut_channels left right r ws)
cut_tabled left right r none = none
cut_tabled left right r (more h k) = more (grind arith) (cut_tabled left right (r + 1) k)

-- ---- a step, and a list of steps

pub end_as : (side : Side) (m : Machine) (ls : List Line) → tables.end_of side (tables_of m ls) ≡ end_of side m
end_as side m ls = grind arith

module _ (laws : SessionLaws) (says : SaysItsUnit) where
  step_of : (m : Machine) (ls : List Line) (s : Step) → HasNumber s → AllTabled ls m.worlds → IsGood m
      → Follows (tables.step (tables_of m ls) s) (step m s)
  step_of m ls (connects o) small k g = grind (arith, transports_as, asked_follows)
  step_of m ls (calls side r c) small k g = search (arith, call_follows, line_there)
  step_of m ls (delivers side r keep) small k g =
      subst (λ (e : Option Ending). Follows (if is_some e then tables_of m ls else tables.delivered_to (tables_of m ls) side r keep
      (tables.side_of side (connection_at r ls))) (step m (delivers side r keep)))
      (sym (end_as side m ls))
      (if_follows (is_some (end_of side m)) _ _ _ _ (record { lines = ls; all = k; same = refl })
      (search (arith, delivery_follows, line_there)))
  step_of m ls (breaks left right) small k g = grind (arith, if_follows, cut_tabled)
  step_of m ls (ends side e keep) small k g =
      grind (arith, if_follows, end_as side m ls, end_follows side e keep (tables_of m ls) m (record { lines = ls; all = k; same = refl }))

  run_follows : (t : Tables) (m : Machine) (steps : List Step) → AllByRecursion HasNumber steps → Follows t m → IsGood m
      → Follows (tables.run t steps) (run m steps)
  run_follows t m [] small h g = h
  run_follows t m (s ∷ steps) small h g =
      run_follows (tables.step t s) (step m s) steps small.1 (grind (arith, step_of))
      (step_good laws m s small.0 g)

  pub all_follow : (terms : Terms) (steps : List Step) → AllByRecursion HasNumber steps
      → Follows (tables.run (tables.start terms) steps) (run (start terms) steps)
  all_follow terms steps small = run_follows _ _ steps small (record { lines = []; all = none; same = refl }) (none_yet terms)
