-- A connection was requested and not yet agreed to, or a core simulates it; every move keeps this.
-- For every law of the machine.
use Rattle.osi_machine.proofs.Vocabulary.{Call, HasSerial, allowed, Offer, Message, World, session_of, after_answer, Terms, closed, turned}
use Rattle.osi_machine.proofs.Vocabulary.{error_of, Told, Side, Left, Right, Machine, Class, is_known, learns, Taking, message_taken}
use Rattle.osi_machine.proofs.Vocabulary.{without_first, Transport, Ending, marked_ended, noted, Entry, seen_from, CanBeOffered, is_profile}
use Rattle.osi_machine.proofs.Vocabulary.{asked_with, untold, is_given, list_any, Lost, Shown, State, Meaning, respond_unit, take_expected}
use Rattle.osi_machine.proofs.Vocabulary.{unit, bye, linked, shows_loss, is_over, Phase, not-true, not, ◌≡◌, refl, sym, subst, ℕ, Bool}
use Rattle.osi_machine.proofs.Vocabulary.{true, false, List, ◌∷◌, ◌⊎◌, inl, inr, arith, Option, is_some, if◌then◌else◌, []}
use Rattle.osi_machine.specs.Machine.{ends_there}
use Rattle.osi_machine.proofs.basics.what_holds_in_each_phase.{by_test, implied}
use Rattle.osi_machine.proofs.invariant.each_step_keeps_one_side.{SessionLaws}
use Rattle.osi_machine.proofs.each_step_keeps_both_sides.{turned_twice, turned_stands}
use Rattle.osi_machine.proofs.promises.what_a_record_tells.{told_all, told_of_call, other}
use Rattle.osi_machine.proofs.whole.how_a_core_simulates_a_connection.{not_both, stopped, cut_to}
use Rattle.osi_machine.proofs.whole.a_close_a_break_and_an_end.{comes_unit}
use Rattle.osi_machine.proofs.whole.every_step_is_simulated.{Repeats, call_simulated, message_repeats, close_repeats}
use Rattle.osi_machine.proofs.whole.every_step_is_simulated.{break_repeats, end_repeats}
use Rattle.osi_machine.proofs.whole.before_it_is_agreed_to.{Opens, Refuses, caller_refuses, called_refuses, caller_ends, called_ends}
use Rattle.osi_machine.proofs.whole.before_it_is_agreed_to.{break_opens, past_opens, caller_takes, called_takes}

-- seen from a side: the left one has requested it, and it is not yet agreed to
abbrev pub Opening : Side → Machine → World → Told → Told → Type 0
Opening Left m w s t = Opens m.terms (is_some m.left_end) w s t
Opening Right m w s t = Opens m.terms (is_some m.left_end) (turned w) t s

-- or it is agreed to: the class is known, and a core simulates it
abbrev pub Stage : Side → Machine → World → Told → Told → Type 0
Stage side m w s t = Opening side m w s t ⊎ ((is_known m.known ≡ true) × Repeats m.broken w s t)

-- ---- the other side

pub turned_back : (w : World) → turned (turned w) ≡ w
turned_back w = λ i. record { offer = w.offer; history = w.history; owner = turned_twice w.owner i; own = w.own; peer = w.peer }

pub turned_stage : (side : Side) (m : Machine) (w : World) (s t : Told) → Stage side m w s t → Stage (other side) m (turned w) t s
turned_stage Left m w s t (inl h) = inl (subst (λ (v : World). Opens m.terms (is_some m.left_end) v s t) (sym (turned_back w)) h)
turned_stage Right m w s t (inl h) = inl h
turned_stage side m w s t (inr (known, h)) = inr (known, search (arith, turned_stands, turned_twice))

-- what the records of both sides tell, seen from one
pub side_stage : (side : Side) (m : Machine) (w : World) (tell : Side → Told) → Stage Left m w (tell Left) (tell Right)
    → Stage side m (seen_from side w) (tell side) (tell (other side))
side_stage Left m w tell h = h
side_stage Right m w tell h = turned_stage Left m w (tell Left) (tell Right) h

pub left_stage : (side : Side) (m : Machine) (w : World) (tell : Side → Told) → Stage side m w (tell side) (tell (other side))
    → Stage Left m (seen_from side w) (tell Left) (tell Right)
left_stage Left m w tell h = h
left_stage Right m w tell h = turned_stage Right m w (tell Right) (tell Left) h

-- ---- a call

pub opening_refuses : (side : Side) (m : Machine) (w : World) (s t : Told) (c : Call) → Opening side m w s t → Refuses (session_of w) c
opening_refuses Left m w s t c h = caller_refuses m.terms (is_some m.left_end) w s t c h
opening_refuses Right m w s t c h = called_refuses m.terms (is_some m.left_end) w t s c h

pub called_stage : SessionLaws → (side : Side) (m : Machine) (w : World) (s t : Told) (c : Call) → HasSerial c → Stage side m w s t
    → Stage side m (after_answer m.broken c w (allowed (session_of w) c)) (told_of_call s c (error_of (allowed (session_of w) c))) t
called_stage laws side m w s t c small (inl h) = grind (arith, opening_refuses side m w s t c h)
called_stage laws side m w s t c small (inr h) = inr (h.0, (call_simulated m.broken w s t h.1 laws c small).repeats)

-- ---- a message

-- the effect of a message that a side takes, and the machine once the class is known by it
abbrev pub taking_of : Machine → ℕ → World → Message → List Message → Taking
taking_of m keep w x xs = message_taken m.broken m.terms keep w.own.transport (without_first w xs) x

abbrev pub learning : Machine → World → Message → Machine
learning m w x = record m { known = learns m.terms w.own.transport x m.known }

pub still_known : (terms : Terms) (tr : Transport) (x : Message) (known : Option Class) → is_known known ≡ true
    → is_known (learns terms tr x known) ≡ true
still_known terms tr x known h = grind arith

pub learned_stage : (m : Machine) (w : World) (s t : Told) (known : Option Class) → (is_known m.known ≡ true → is_known known ≡ true)
    → Stage Left m w s t → Stage Left (record m { known = known }) w s t
learned_stage m w s t known f (inl h) = inl h
learned_stage m w s t known f (inr h) = inr (f h.0, h.1)

module _ (laws : SessionLaws) (side : Side) (m : Machine) (w : World) (s t : Told) (keep : ℕ) (x : Message) (xs : List Message)
    (e : w.peer.channel ≡ x ∷ xs) where
  opening_takes : (d : Side) → Opening d m w s t → ((taking_of m keep w x xs).closes ≡ false)
      × Stage d (learning m w x) (taking_of m keep w x xs).world (told_all s (taking_of m keep w x xs).shown) t
  opening_takes Left h = caller_takes m.broken m.terms (is_some m.left_end) m.known keep w s t x xs h e
  opening_takes Right h = let k = called_takes m.broken m.terms (is_some m.left_end) keep w t s h x xs e in (k.0, inl k.1)

  pub taken_stage : Stage side m w s t
      → Stage side (learning m w x) (taking_of m keep w x xs).world (told_all s (taking_of m keep w x xs).shown) t
  taken_stage (inl h) = (opening_takes side h).1
  taken_stage (inr h) =
      inr (still_known m.terms w.own.transport x m.known h.0, (message_repeats m.broken w s t h.1 laws m.terms keep x xs e).repeats)

  -- a side closes only what was agreed to, and is over then
  pub closed_stage : Stage side m w s t → (taking_of m keep w x xs).closes ≡ true
      → (is_known (learning m w x).known ≡ true) × (stopped (taking_of m keep w x xs).world.own ≡ true)
      × Stage side (learning m w x) (closed m.broken keep (taking_of m keep w x xs).world) (told_all s (taking_of m keep w x xs).shown) t
  closed_stage (inl h) c = not_both (taking_of m keep w x xs).closes c (opening_takes side h).0
  closed_stage (inr h) c =
      let y = message_repeats m.broken w s t h.1 laws m.terms keep x xs e in
      let o = y.over_now c in
      let known = still_known m.terms w.own.transport x m.known h.0 in
      (known, o.0, inr (known, close_repeats m.broken (taking_of m keep w x xs).world _ t y.repeats keep o.0 o.1))

-- ---- an end, and a break

ended_repeats : (b : Bool) (w : World) (s t : Told) (k : ℕ) → Repeats b w s t → Repeats b (ends_there k w) s t
ended_repeats b w s t k h = by_test (is_given w.own.transport) (λ q. rw q (end_repeats b w s t h k)) (λ q. rw q h)

-- the side that ends, whatever else then changes in the machine
ends_stage : (side : Side) (e : Ending) (m : Machine) (es : List Entry) (ws : List World) (k : ℕ) (w : World) (s t : Told)
    → Stage side m w s t → Stage side (marked_ended side e (noted es (record m { worlds = ws }))) (ends_there k w) s t
ends_stage Left e m es ws k w s t (inl h) = inl (by_test (is_given w.own.transport)
    (λ q. rw q (caller_ends m.terms (is_some m.left_end) w s t k h))
    (λ q. rw q (past_opens m.terms (is_some m.left_end) w s t h)))
ends_stage Right e m es ws k w s t (inl h) = grind (arith, called_ends)
ends_stage Left e m es ws k w s t (inr h) = inr (h.0, ended_repeats m.broken w s t k h.1)
ends_stage Right e m es ws k w s t (inr h) = inr (h.0, ended_repeats m.broken w s t k h.1)

pub ended_stage : (side : Side) (e : Ending) (m : Machine) (es : List Entry) (ws : List World) (k : ℕ) (w : World) (tell : Side → Told)
    → Stage Left m w (tell Left) (tell Right)
    → Stage Left (marked_ended side e (noted es (record m { worlds = ws }))) (seen_from side (ends_there k (seen_from side w)))
    (tell Left) (tell Right)
ended_stage side e m es ws k w tell h = left_stage side _ (ends_there k (seen_from side w)) tell
    (ends_stage side e m es ws k (seen_from side w) (tell side) (tell (other side)) (side_stage side m w tell h))

pub broken_stage : (m : Machine) (w : World) (s t : Told) (k j : ℕ) → Stage Left m w s t →
    Stage Left (record m { broken = true }) (cut_to k j w) s t
broken_stage m w s t k j (inl h) = inl (break_opens m.terms (is_some m.left_end) w s t k j h)
broken_stage m w s t k j (inr h) = inr (h.0, break_repeats m.broken w s t h.1 k j)

-- ---- how it begins

abbrev pub new_line : Bool → Offer → World
new_line b o = if b then record (asked_with o) { own = record (asked_with o).own { channel = [] } } else asked_with o

pub asked_stage : (m : Machine) (o : Offer) → CanBeOffered o → is_profile o.requirements ≡ true
    → Stage Left m (new_line m.broken o) (untold Left o) (untold Right o)
asked_stage m o small profile = grind arith

-- ---- no message that is taken shows a fault or a loss

-- the records of both sides tell of no fault
pub no_fault_told : (side : Side) (m : Machine) (w : World) (s t : Told) → Stage side m w s t → (s.faulted ≡ false) × (t.faulted ≡ false)
no_fault_told side m w s t (inl h) = grind arith
no_fault_told side m w s t (inr h) = (h.1.own.fine, h.1.peer.fine)

abbrev pub is_lost : Shown → Bool
is_lost Lost = true
is_lost i = false

unit_keeps : (s : State) (u : Meaning) → list_any is_lost (respond_unit s u).shown ≡ false
unfolding respond_unit take_expected
unit_keeps s u = grind arith

pub over_quiet : (p : Phase) → is_over p ≡ true → shows_loss p ≡ false
over_quiet p o = not-true (shows_loss p) (implied is_over (λ q. not (shows_loss q)) refl p o)

-- a close comes only if the session is over
close_quiet : (side : Side) (m : Machine) (w : World) (s t : Told) (r : ℕ) (ms : List Message) → Stage side m w s t
    → w.peer.channel ≡ bye r ∷ ms → shows_loss w.own.kept.phase ≡ false
close_quiet side m w s t r ms (inl h) e = absurd (grind arith)
close_quiet side m w s t r ms (inr h) e = grind (arith, over_quiet, comes_unit m.broken w h.1.core h.1.projects (bye r) ms)

pub none_lost : (side : Side) (m : Machine) (keep : ℕ) (w : World) (s t : Told) (x : Message) (xs : List Message) → Stage side m w s t
    → w.peer.channel ≡ x ∷ xs → list_any is_lost (taking_of m keep w x xs).shown ≡ false
none_lost side m keep w s t x xs h e = by w.own.transport x e
  where
    by : (tr : Transport) (y : Message) → w.peer.channel ≡ y ∷ xs
        → list_any is_lost (message_taken m.broken m.terms keep tr (without_first w xs) y).shown ≡ false
    by linked (unit v) f = unit_keeps (session_of (without_first w xs)) v
    by linked (bye r) f = grind (arith, close_quiet side m w s t r xs h f)
    by tr y f = grind arith
