-- The parts of one Data, with calls of their taker between, and the whole Data after the calls alone.
use Rattle.osi_session.proofs.Vocabulary.{cases_Bool, and_parts, length-append, SpduFault, State, most_data, Step, Answer, allowed, needs}
use Rattle.osi_session.proofs.Vocabulary.{may_call, after, has_right, AllHold, Call, available, Tokens, Place, First, Middle, Last, Meaning}
use Rattle.osi_session.proofs.Vocabulary.{DT, GT, said_at, IsSendable, words_of, no_token, without, Words, says, part, part_octets, written}
use Rattle.osi_session.proofs.Vocabulary.{user_data_of, kept_in, discards, IsNoFault, Input, called, taken, came, came_as, Listener, Move}
use Rattle.osi_session.proofs.Vocabulary.{rests, moved, react, after_input, after_inputs, Act, comes, calls, part_comes, act_in_words}
use Rattle.osi_session.proofs.Vocabulary.{act_in_octets, calls_in, AreParts, AreAlike, AreSilent, IsOfProfile, HasProfile, joined_octets}
use Rattle.osi_session.proofs.Vocabulary.{is_in_place, is_last, ◌≡◌, refl, sym, ◌∙◌, ap, subst, ℕ, ◌≤◌, true, false, ◌⊎◌, List, [], ◌∷◌}
use Rattle.osi_session.proofs.Vocabulary.{◌++◌, length, map, Option, Some, None, Result, Ok, Err, inl, inr, arith}
use Rattle.osi_session.proofs.tables.what_is_true_of_each_phase.{implied, excluded}
use Rattle.osi_session.proofs.tables.what_an_accepted_call_has_passed.{passed}
use Rattle.osi_message.specs.Tokens as token
use Rattle.osi_session.proofs.tsdu.what_a_receiver_keeps.{Joins, next_is, last_joined}
use Rattle.osi_session.proofs.moves.the_move_of_each_input.{call_is, taken_is}
use Rattle.osi_session.proofs.tsdu.a_part_expected_or_discarded.{Expects, expects, data_discarded, part_discarded}
use Rattle.osi_session.proofs.tables.messages_act_as_the_table_says.{kept_none, word_behind, words_of_message}

-- ---- what a call leaves

-- data is expected by a session of a profile
pub record Awaits (s : State) : Type 0 where
  pub expects : Expects s
  pub profile : IsOfProfile s.units

abbrev Leaves : State → Type 0
Leaves s = Awaits s ⊎ (discards s.phase ≡ true)

after_leaves : (s : State) (c : Call) → may_call s.phase c ≡ true → AllHold (needs s c) → Awaits s → Leaves (after s c)
unfolding available without
after_leaves s c m n a = grind (arith, excluded, and_parts)

-- ---- the state of the receiver of some parts

-- it awaits data and has joined what was begun, or it discards data and has joined nothing
abbrev Stands : State → Option (List ℕ) → Option (List ℕ) → Type 0
Stands s joined begun = (Awaits s × (joined ≡ begun)) ⊎ ((discards s.phase ≡ true) × (joined ≡ None))

abbrev at : State → Option Meaning → Option (List ℕ) → Listener
at s waiting joined = record { state = s; waiting = waiting; joined = joined }

-- ---- a call of it

record CallStep (s : State) (waiting : Option Meaning) (joined begun : Option (List ℕ)) (c : Call) : Type 0 where
  state : State
  now : Option (List ℕ)
  is : after_input (at s waiting joined) (called c) ≡ at state waiting now
  whole : after_input (at s waiting None) (called c) ≡ at state waiting None
  alike : AreAlike (react (at s waiting joined) (called c)) (react (at s waiting None) (called c))
  stands : Stands state now begun

leaves_stands : (s : State) (joined begun : Option (List ℕ)) → joined ≡ begun → Leaves s → Stands s (kept_in s.phase joined) begun
leaves_stands s joined begun e h = grind (arith, implied)

stands_then : (s : State) (joined begun : Option (List ℕ)) (c : Call) (x : Step) → allowed s c ≡ Ok x → Stands s joined begun →
    Stands x.next (kept_in x.next.phase joined) begun
stands_then s joined begun c x h st = elim st [
  | inl a ↦ leaves_stands x.next joined begun a.1 (grind (arith, after_leaves, passed))
  | inr d ↦ inr (grind (arith, passed), ap (kept_in x.next.phase) d.1 ∙ kept_none x.next.phase)
]

call_step : (s : State) (waiting : Option Meaning) (joined begun : Option (List ℕ)) (c : Call) (answer : Answer) → allowed s c ≡ answer →
    Stands s joined begun → CallStep s waiting joined begun c
call_step s waiting joined begun c (Ok x) e st = record {
  state = x.next;
  now = kept_in x.next.phase joined;
  is = ap (λ (m : Move). m.next) (call_is (at s waiting joined) c (Ok x) e);
  whole = ap (λ (m : Move). m.next) (call_is (at s waiting None) c (Ok x) e) ∙ ap (at x.next waiting) (kept_none x.next.phase);
  alike = grind (arith, call_is);
  stands = stands_then s joined begun c x e st;
}
call_step s waiting joined begun c (Err f) e st = grind (arith, call_is)

-- ---- a part of it

part_rests : (s : State) (waiting : Option Meaning) (joined now : Option (List ℕ)) (place : Place) (o : List ℕ) →
    Joins s joined (part place o) now →
    react (at s waiting joined) (part_comes place o) ≡ rests (at s waiting now)
part_rests s waiting joined now place o e = (grind (arith, taken_is, word_behind)) ∙ ap (moved (at s waiting joined)) e

record PartStep (s : State) (waiting : Option Meaning) (joined : Option (List ℕ)) (place : Place) (o : List ℕ)
    (begun : Option (List ℕ)) : Type 0 where
  now : Option (List ℕ)
  is : react (at s waiting joined) (part_comes place o) ≡ rests (at s waiting now)
  stands : Stands s now begun

part_step : (s : State) (waiting : Option Meaning) (joined begun : Option (List ℕ)) (place : Place) (o : List ℕ) →
    is_in_place begun place ≡ true → is_last place ≡ false → length (joined_octets begun ++ o) ≤ most_data → Stands s joined begun →
    PartStep s waiting joined place o (Some (joined_octets begun ++ o))
part_step s waiting joined begun place o h l short st = elim st [
  | inl a ↦
      let now = Some (joined_octets begun ++ o) in
      let is = part_rests s waiting begun now place o (next_is s begun place o h l short a.0.expects) in
      record { now = now; is = let same = a.1 in rw same is; stands = inl (a.0, refl) }
  | inr d ↦ grind (arith, part_rests, part_discarded)
]

-- ---- the last part

abbrev whole_comes : List ℕ → Input
whole_comes octets = taken (words_of (DT octets))

last_moves : (s : State) (waiting : Option Meaning) (joined : Option (List ℕ)) (front last : List ℕ) → Stands s joined (Some front) →
    length (front ++ last) ≤ most_data →
    react (at s waiting joined) (part_comes Last last) ≡ react (at s waiting None) (whole_comes (front ++ last))
last_moves s waiting joined front last st short =
    grind (arith, taken_is, word_behind, last_joined, expects, part_discarded, data_discarded, words_of_message)

-- ---- all of them

-- the octets that have begun are no longer than all octets
grows : (acts : List Act) (b front : List ℕ) → AreParts (Some b) acts front → length b ≤ length front
grows [] b front h = let e : b ≡ front = grind arith in let l = ap length e in omega arith
grows (calls c ∷ acts) b front h = grows acts b front h
grows (comes Middle o ∷ acts) b front h = grind (arith, length-append, grows acts (b ++ o) front h)
grows _ b front h = absurd h

runs : (s : State) (waiting : Option Meaning) (joined begun : Option (List ℕ)) (acts : List Act) (front last : List ℕ) →
    Stands s joined begun → AreParts begun acts front → length (front ++ last) ≤ most_data →
    react (after_inputs (at s waiting joined) (map act_in_words acts)) (part_comes Last last)
    ≡ react (after_inputs (at s waiting None) (calls_in acts)) (whole_comes (front ++ last))
runs s waiting joined begun [] front last st h short = last_moves s waiting joined front last (subst (Stands s joined) h st) short
runs s waiting joined begun (calls c ∷ acts) front last st h short =
    let k = call_step s waiting joined begun c (allowed s c) refl st in
    ap (λ (l : Listener). react (after_inputs l (map act_in_words acts)) (part_comes Last last)) k.is
    ∙ runs k.state waiting k.now begun acts front last k.stands h short
    ∙ ap (λ (l : Listener). react (after_inputs l (calls_in acts)) (whole_comes (front ++ last))) (sym k.whole)
runs s waiting joined None (comes First o ∷ acts) front last st h short =
    let g = grows acts o front h in
    let m = length-append front last in
    let k = part_step s waiting joined None First o refl refl (omega arith) st in
    ap (λ (m : Move). react (after_inputs m.next (map act_in_words acts)) (part_comes Last last)) k.is
    ∙ runs s waiting k.now (Some o) acts front last k.stands h short
runs s waiting joined (Some b) (comes Middle o ∷ acts) front last st h short =
    let g = grows acts (b ++ o) front h in
    let m = length-append front last in
    let k = part_step s waiting joined (Some b) Middle o refl refl (omega arith) st in
    ap (λ (m : Move). react (after_inputs m.next (map act_in_words acts)) (part_comes Last last)) k.is
    ∙ runs s waiting k.now (Some (b ++ o)) acts front last k.stands h short
runs s waiting joined _ _ front last st h short = absurd h

-- ---- at the first part

pub parts_do_as_whole : (l : Listener) (acts : List Act) (front last : List ℕ) → l.joined ≡ None → HasProfile l.state →
    IsNoFault l.state (front ++ last) →
    length (front ++ last) ≤ most_data → AreParts None acts front →
    react (after_inputs l (map act_in_words acts)) (part_comes Last last) ≡ react (after_inputs l (calls_in acts))
    (taken (words_of (DT (front ++ last))))
parts_do_as_whole l acts front last e f fit short h = grind (arith, runs)

-- ---- in octets

abbrev ReadAsParts : Type 0
ReadAsParts = (place : Place) (octets : List ℕ) → said_at (part_octets place octets) ≡ Ok (says (GT no_token) ∷ part place octets ∷ [])

came_in_words : ReadAsParts → (place : Place) (octets : List ℕ) → came (part_octets place octets) ≡ part_comes place octets
came_in_words read place octets = ap (λ (r : Result Words SpduFault). came_as r) (read place octets)

acts_in_words : ReadAsParts → (acts : List Act) → map act_in_octets acts ≡ map act_in_words acts
acts_in_words read [] = refl
acts_in_words read (comes place octets ∷ acts) = grind (arith, came_in_words, acts_in_words read acts)
acts_in_words read (calls c ∷ acts) = ap (λ (is : List Input). called c ∷ is) (acts_in_words read acts)

pub octets_do_as_whole : ReadAsParts → (l : Listener) (acts : List Act) (front last : List ℕ) →
    said_at (written (DT (front ++ last))) ≡ Ok (words_of (DT (front ++ last))) →
    l.joined ≡ None → HasProfile l.state → IsNoFault l.state (front ++ last) → length (front ++ last) ≤ most_data →
    AreParts None acts front →
    react (after_inputs l (map act_in_octets acts)) (came (part_octets Last last)) ≡ react (after_inputs l (calls_in acts))
    (came (written (DT (front ++ last))))
octets_do_as_whole read l acts front last whole e f fit short h =
    grind (arith, acts_in_words read acts, came_in_words read Last last, parts_do_as_whole l acts front last e f fit short h)

-- ---- until the last part

quiet_part : ReadAsParts → (l m : Listener) (now : Listener) (place : Place) (o : List ℕ) (acts : List Act) →
    react l (part_comes place o) ≡ rests now → AreSilent now m acts →
    AreSilent l m (comes place o ∷ acts)
quiet_part read l m now place o acts e h = grind (arith, came_in_words)

silent_run : ReadAsParts → (s : State) (waiting : Option Meaning) (joined begun : Option (List ℕ)) (acts : List Act) (front : List ℕ) →
    Stands s joined begun → AreParts begun acts front →
    length front ≤ most_data → AreSilent (at s waiting joined) (at s waiting None) acts
silent_run read s waiting joined begun [] front st h short = tt
silent_run read s waiting joined begun (calls c ∷ acts) front st h short =
    let k = call_step s waiting joined begun c (allowed s c) refl st in (
      (refl, k.alike),
      grind (arith, silent_run read k.state waiting k.now begun acts front k.stands h short),
    )
silent_run read s waiting joined None (comes First o ∷ acts) front st h short =
    let g = grows acts o front h in
    let k = part_step s waiting joined None First o refl refl (omega arith) st in
    search (arith, quiet_part, silent_run read s waiting k.now (Some o) acts front k.stands h short)
silent_run read s waiting joined (Some b) (comes Middle o ∷ acts) front st h short =
    let g = grows acts (b ++ o) front h in
    let k = part_step s waiting joined (Some b) Middle o refl refl (omega arith) st in
    search (arith, quiet_part, silent_run read s waiting k.now (Some (b ++ o)) acts front k.stands h short)
silent_run read s waiting joined _ _ front st h short = absurd h

pub silent_before : ReadAsParts → (l : Listener) (acts : List Act) (front last : List ℕ) → l.joined ≡ None → HasProfile l.state →
    IsNoFault l.state (front ++ last) →
    length (front ++ last) ≤ most_data → AreParts None acts front → AreSilent l l acts
silent_before read l acts front last e f fit short h =
    let m = length-append front last in
    let none = silent_run read l.state l.waiting None None acts front (grind (arith, cases_Bool, implied, expects)) h (omega arith) in
    subst (λ (k : Option (List ℕ)). AreSilent (at l.state l.waiting k) (at l.state l.waiting k) acts) (sym e) none

-- data can be sent, whatever it is
pub data_sendable : (octets : List ℕ) → IsSendable (DT octets)
unfolding user_data_of
data_sendable octets = record { version = refl; numbered = tt; sized = refl; addressed = tt; short = omega arith }
