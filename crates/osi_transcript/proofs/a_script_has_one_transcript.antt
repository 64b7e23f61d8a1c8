-- A script has one transcript: after each line, the two ends of one run and those of another have the same state.
-- For the law of the same name.
use Rattle.osi_transcript.proofs.Vocabulary.{◌≡◌, ◌∙◌, ℕ, List, [], ◌∷◌, ◌++◌, length, drop, Option, Some, None, inl, inr, sym, ap, ap₂}
use Rattle.osi_transcript.proofs.Vocabulary.{subst, arith, Local, TwoEnds, fresh_ends, Entry, misfit, Does, IsReached, AreSameEnds}
use Rattle.osi_transcript.proofs.Vocabulary.{FoundMemory, StandsAt, Event, fresh_less, Command, Ends, Connect, OfUser, Carry, Break, Told}
use Rattle.osi_transcript.proofs.Vocabulary.{command_of, Classes, IsEvent, entry_texts, Lines, Rest, IsApplied, FailsAt, RefusesLine}
use Rattle.osi_transcript.proofs.Vocabulary.{Applies, PlaysLine, Plays, IsLocal, Starts, BeginsWith, Transcribes, carried_by, event_text}
use Rattle.osi_transcript.proofs.Vocabulary.{new_texts}
use Rattle.osi_pair.specs.declared.events.Event.TheVariants as event
use Rattle.osi_transcript.proofs.one_line_has_one_effect.{AreOneEvent, one_event}
use Rattle.osi_transcript.proofs.the_same_numbers_are_one_configuration.{one_local}

-- one text and one status
abbrev AreOne : (text other : List ℕ) (status code : ℕ) → Type 0
AreOne text other status code = (text ≡ other) × (status ≡ code)

-- an event does one thing
abbrev pub DoesOnce : Type 0
DoesOnce = (event : Event) (p q a b : TwoEnds) (octets : ℕ) → IsReached p → IsReached q → IsReached a → IsReached b → AreSameEnds p q →
    Does event p octets a → Does event q octets b → FoundMemory a → FoundMemory b → AreSameEnds a b

-- two pairs of ends in the same state
record AreBehind (p q : TwoEnds) : Type 0 where
  here : IsReached p
  there : IsReached q
  same : AreSameEnds p q

abbrev IsRestOnce : Rest → Type 0
IsRestOnce rest = (p q : TwoEnds) (a b : List ℕ) (s t : ℕ) → AreBehind p q → rest p a s → rest q b t → AreOne a b s t

-- ---- an event

same_misfit : (x : Event) (p q : TwoEnds) → AreSameEnds p q → misfit x p ≡ misfit x q
same_misfit x p q h = grind arith

-- it fits in one of two runs, and not in the other
fits_both : (number : ℕ) (x y : Event) (p q new : TwoEnds) (text : List ℕ) (status : ℕ) → misfit x p ≡ misfit y q → IsApplied x p new →
    FailsAt number y q text status → ⊥
fits_both number x y p q new text status same h k = grind arith

event_once : DoesOnce → (number : ℕ) (x y : Event) (rest : Rest) → IsRestOnce rest → AreOneEvent x y →
    (p q : TwoEnds) (a b : List ℕ) (s t : ℕ) → AreBehind p q →
    Applies number x rest p a s → Applies number y rest q b t → AreOne a b s t
event_once law number x y rest once one p q a b s t h (inl i) (inl k) =
    let n : ℕ = carried_by x p in
    let many : carried_by y q ≡ n = sym (one.carries q) ∙ sym (grind arith) in
    let does = one.does q k.0 n (subst (λ (m : ℕ). Does y q m k.0) many k.2.does) in
    let new = law x p q i.0 k.0 n h.here h.there i.2.reached k.2.reached h.same i.2.does does i.2.memory k.2.memory in
    let more = once i.0 k.0 i.1 k.1 s t (record { here = i.2.reached; there = k.2.reached; same = new }) i.4 k.4 in
    let first : event_text x n ≡ event_text y (carried_by y q) = one.says n ∙ ap (event_text y) (sym many) in
    let texts : new_texts p i.0 ≡ new_texts q k.0 =
    ap₂ (λ (old now : List Entry). entry_texts (drop (length old) now)) h.same.journal new.journal in (
      i.3 ∙ ap₂ (λ (u v : List ℕ). u ++ v ++ i.1) first texts
          ∙ ap (λ (w : List ℕ). event_text y (carried_by y q) ++ new_texts q k.0 ++ w) more.0 ∙ sym k.3,
      more.1,
    )
event_once law number x y rest once one p q a b s t h (inl i) (inr k) = search (arith, fits_both, same_misfit)
event_once law number x y rest once one p q a b s t h (inr i) (inl k) = search (arith, fits_both, same_misfit)
event_once law number x y rest once one p q a b s t h (inr i) (inr k) = grind (arith, same_misfit)

-- ---- a line

refuses_once : (number : ℕ) (a b : List ℕ) (s t : ℕ) → RefusesLine number a s → RefusesLine number b t → AreOne a b s t
refuses_once number a b s t h k = (h.says ∙ sym k.says, h.bad ∙ sym k.bad)

asked_once : DoesOnce → (number : ℕ) (c : Command) (rest : Rest) → IsRestOnce rest → (p q : TwoEnds) (a b : List ℕ) (s t : ℕ) →
    AreBehind p q →
    (x : Event) × IsEvent c x × Applies number x rest p a s → (y : Event) × IsEvent c y × Applies number y rest q b t → AreOne a b s t
asked_once law number c rest once p q a b s t h i k = event_once law number i.0 k.0 rest once
    (one_event c i.0 k.0 i.1 k.1) p q a b s t h i.2 k.2

line_once : DoesOnce → (number : ℕ) (o : Option Command) (rest : Rest) → IsRestOnce rest → (p q : TwoEnds) (a b : List ℕ) (s t : ℕ) →
    AreBehind p q →
    PlaysLine number o rest p a s → PlaysLine number o rest q b t → AreOne a b s t
line_once law number None rest once p q a b s t h i k = refuses_once number a b s t i k
line_once law number (Some (Ends caller called size window)) rest once p q a b s t h i k = refuses_once number a b s t i k
line_once law number (Some (Connect requirements serial wishes sizes octets)) rest once p q a b s t h i k = asked_once law number
    (Connect requirements serial wishes sizes octets) rest once p q a b s t h i k
line_once law number (Some (OfUser side reference call)) rest once p q a b s t h i k = asked_once law number
    (OfUser side reference call) rest once p q a b s t h i k
line_once law number (Some (Carry side octets)) rest once p q a b s t h i k = asked_once law number
    (Carry side octets) rest once p q a b s t h i k
line_once law number (Some (Break left right)) rest once p q a b s t h i k = asked_once law number
    (Break left right) rest once p q a b s t h i k
line_once law number (Some (Told side)) rest once p q a b s t h i k = asked_once law number (Told side) rest once p q a b s t h i k

plays_once : DoesOnce → (lines : Lines) → IsRestOnce (Plays lines)
plays_once law [] p q a b s t h i k = grind arith
plays_once law ((number, line) ∷ lines) p q a b s t h i k = line_once law number (command_of line) (Plays lines)
    (plays_once law lines) p q a b s t h i k

-- ---- the first line

fresh_reached : ((left right : Local) → StandsAt (fresh_ends left right) []) → (left right : Local) → IsReached (fresh_ends left right)
fresh_reached begins left right = record { steps = []; stands = begins left right; held = fresh_less left right }

fresh_same : (left right : Local) → AreSameEnds (fresh_ends left right) (fresh_ends left right)
fresh_same left right = grind arith

local_once : (classes : Classes) (code units : ℕ) (a b : Local) → IsLocal classes code units a → IsLocal classes code units b → a ≡ b
local_once classes code units a b h k = grind (arith, one_local)

starts_once : ((left right : Local) → StandsAt (fresh_ends left right) []) →
    (caller called : Classes) (size window : ℕ) (p q : TwoEnds) → Starts caller called size window p →
    Starts caller called size window q → AreBehind p q
starts_once begins caller called size window p q h k =
    grind (
      arith,
      local_once caller size window k.left h.left k.is_left h.is_left,
      local_once called size window k.right h.right k.is_right h.is_right,
      fresh_reached begins h.left h.right,
      fresh_same h.left h.right,
    )

begins_once : DoesOnce → ((left right : Local) → StandsAt (fresh_ends left right) []) →
    (number : ℕ) (o : Option Command) (lines : Lines) (a b : List ℕ) (s t : ℕ) →
    BeginsWith number o lines a s → BeginsWith number o lines b t → AreOne a b s t
begins_once law begins number None lines a b s t h k = refuses_once number a b s t h k
begins_once law begins number (Some (Ends caller called size window)) lines a b s t h k =
    plays_once law lines h.0 k.0 a b s t (starts_once begins caller called size window h.0 k.0 h.1 k.1) h.2 k.2
begins_once law begins number (Some (Connect requirements serial wishes sizes octets)) lines a b s t h k = refuses_once number a b s t h k
begins_once law begins number (Some (OfUser side reference call)) lines a b s t h k = refuses_once number a b s t h k
begins_once law begins number (Some (Carry side octets)) lines a b s t h k = refuses_once number a b s t h k
begins_once law begins number (Some (Break left right)) lines a b s t h k = refuses_once number a b s t h k
begins_once law begins number (Some (Told side)) lines a b s t h k = refuses_once number a b s t h k

pub one_transcript : DoesOnce → ((left right : Local) → StandsAt (fresh_ends left right) []) →
    (lines : Lines) (text other : List ℕ) (status code : ℕ) →
    Transcribes lines text status → Transcribes lines other code → (text ≡ other) × (status ≡ code)
one_transcript law begins lines text other status code h k = grind (arith, begins_once)
