-- The moves of a session in memory.
use Rattle.osi_session.proofs.Vocabulary.{SpduFault, IsNumberedWord, AreNumberedWords, said_at, Place, Word, Words, part, Indication}
use Rattle.osi_session.proofs.Vocabulary.{Reactions, Heard, Taker, Hearing, kept_in, joined_octets, is_last, word_verdict, respond_word}
use Rattle.osi_session.proofs.Vocabulary.{respond_tsdu, respond_came, Listener, Move, moved, taker_of, is_wait_transport, fine, Takes}
use Rattle.osi_session.proofs.Vocabulary.{takes_memory, IsSound, hearing_of, hearing_of_all, outcome_of, outcome_of_all, shown_list}
use Rattle.osi_session.proofs.Vocabulary.{takes_room, plain_said, plain_word, came, react, arith, ◌≡◌, refl, sym, subst, ℕ, ◌≤◌, ◌<◌, true}
use Rattle.osi_session.proofs.Vocabulary.{◌&&◌, if◌then◌else◌, is_some, List, [], ◌∷◌, ◌++◌, length, Option, Some, None, Result, Ok, Err}
use Rattle.osi_session.proofs.Vocabulary.{PlainUnit, Expected, Taken, Tries, met_by}
use Rattle.osi_session.specs.Shown.{Data}
use Rattle.osi_session.proofs.tsdu.the_effect_of_a_word.{fine_holds, first_is, middle_is, last_is, early_takes}
use Rattle.osi_session.proofs.tsdu.what_is_joined.{InPhase, Few, words_in_phase, words_few}
use Rattle.osi_session.proofs.tsdu.what_the_words_of_a_tsdu_preserve.{words_sound, words_begun, octets_sound, fault_sound, fault_begun}
use Rattle.osi_session.proofs.tables.messages_act_as_the_table_says.{word_alone, word_behind}
use Rattle.osi_session.proofs.moves.the_move_of_each_input.{came_is}

-- what a TSDU takes, by the move that it is
pub takes_as : {E : Type 0} (r : Result Taken E) (m n : Move) (old new : Listener) → m ≡ n → Takes r m old new → Takes r n old new
takes_as r m n old new e t = subst (λ (x : Move). Takes r x old new) e t

pub takes_nothing : {E : Type 0} (e : E) (l new : Listener) (m : Move) → new ≡ l → takes_memory l m ≡ true →
    (let r : Result Taken E = Err e in Takes r m l new)
takes_nothing e l new m n h = record { state = tt; shown = tt; first = tt; reply = tt; closes = tt; err = n; memory = h }

-- ---- what is true of a session in memory is true of its hearing

pub record Holds (l : Listener) : Type 0 where
  pub sound : IsSound l.state
  pub phase : InPhase (taker_of l)
  pub few : Few l.joined

pub holds : {v l : Listener} → v ≡ l → IsSound v.state → kept_in v.state.phase v.joined ≡ v.joined →
    length (joined_octets v.joined) ≤ 1048572
    → Holds l
holds e sound phase few = subst Holds e (record { sound = sound; phase = phase; few = few })

pub record Leaves (l : Listener) (h : Hearing) : Type 0 where
  pub sound : IsSound h.next.state
  pub begun : is_wait_transport h.next.state.phase ≡ true → is_wait_transport l.state.phase ≡ true
  pub phase : InPhase h.next
  pub few : Few h.next.joined

pub leaves_words : (l : Listener) (words : Words) → Holds l → AreNumberedWords words → Leaves l (respond_tsdu (taker_of l) words)
leaves_words l words h n = grind (arith, words_sound, words_begun, words_in_phase, words_few)

pub leaves_word : (l : Listener) (w : Word) → Holds l → IsNumberedWord w → Leaves l (respond_word (taker_of l) w)
leaves_word l w h n = subst (Leaves l) (word_alone (taker_of l) w) (leaves_words l (w ∷ []) h (n, tt))

pub leaves_octets : (l : Listener) (tsdu : List ℕ) → Holds l → Leaves l (respond_came (taker_of l) (said_at tsdu))
leaves_octets l tsdu h = record {
  sound = octets_sound (taker_of l) tsdu _ refl h.sound;
  begun = grind (arith, words_begun, fault_begun, said_at);
  phase = grind (arith, words_in_phase);
  few = grind (arith, words_few);
}

pub leaves_fault : (l : Listener) (fault : SpduFault) → Holds l → Leaves l (respond_came (taker_of l) (Err fault))
leaves_fault l fault h = search (arith, fault_sound, fault_begun)

pub leaves_as : (l : Listener) (h k : Hearing) → h ≡ k → Leaves l k → Leaves l h
leaves_as l h k e x = subst (Leaves l) (sym e) x

-- ---- a hearing in memory, by the session's value

pub of_heard : (j : Option (List ℕ)) (r : Reactions) (h : Heard) (want : Hearing) → outcome_of_all r ≡ outcome_of h.reaction →
    r.joined ≡ h.joined
    → hearing_of j h.joined (outcome_of h.reaction) ≡ want → hearing_of_all j r ≡ want
of_heard j r h want e f w = grind arith

-- the same, by what is in memory
pub heard_by : {v l : Listener} {k : Option (List ℕ)} (want : Taker → Hearing) (r : Reactions) → v ≡ l → k ≡ v.joined →
    hearing_of_all k r ≡ want (record { state = v.state; joined = k }) → hearing_of_all l.joined r ≡ want (taker_of l)
heard_by want r view same h = grind arith

pub room_by : {v l : Listener} {k : Option (List ℕ)} (want : Taker → Hearing) → v ≡ l → k ≡ v.joined →
    takes_room k (want (record { state = v.state; joined = k })) ≡ true → takes_memory l (moved l (want (taker_of l))) ≡ true
room_by want view same room = grind arith

pub leaves_by : {v l : Listener} {k : Option (List ℕ)} (want : Taker → Hearing) (r : Reactions) → v ≡ l → k ≡ v.joined →
    hearing_of_all k r ≡ want (record { state = v.state; joined = k }) → IsSound v.state → kept_in v.state.phase v.joined ≡ v.joined →
    length (joined_octets v.joined) ≤ 1048572 → (Holds l → Leaves l (want (taker_of l))) → Leaves l (hearing_of_all l.joined r)
leaves_by {l = l} want r view same h sound kept few leaves =
    leaves_as l (hearing_of_all l.joined r) (want (taker_of l)) (heard_by want r view same h) (leaves (holds view sound kept few))

-- ---- a part

-- a good part is joined, and the last shows what is joined
pub part_joins : {E : Type 0} {v l : Listener} {k m : Option (List ℕ)} {e : Expected} (r : Option Indication) (place : Place) (o : List ℕ) →
    v ≡ l → word_verdict (taker_of l) (part place o) ≡ fine → k ≡ Some (joined_octets v.joined ++ o)
    → shown_list r ≡ (if is_last place && is_some k then Data (joined_octets k) ∷ [] else []) →
    m ≡ (if◌then◌else◌ {A = Option (List ℕ)} (is_last place) None k) → e ≡ met_by r
    → (let x : Result Expected E = Ok e in Tries x (moved l (respond_word (taker_of l) (part place o))) l (record v { joined = m }))
part_joins r place o view fit f shown n met = grind (arith, respond_word, first_is, fine_holds, middle_is, last_is)

-- an allocation failure changes nothing
pub part_refused : {E : Type 0} {v l : Listener} {k : Option (List ℕ)} (e : E) (place : Place) (o : List ℕ) → v ≡ l →
    word_verdict (taker_of l) (part place o) ≡ fine → k ≡ v.joined → 0 < length o
    → (let r : Result Expected E = Err e in Tries r (moved l (respond_word (taker_of l) (part place o))) l (record v { joined = k }))
part_refused e place o view fit same h = grind (arith, first_is, early_takes, fine_holds, middle_is, last_is)

-- ---- a TSDU on the fast path

pub tries_as : {E : Type 0} (r : Result Expected E) (m n : Move) (old new : Listener) → m ≡ n → Tries r m old new → Tries r n old new
tries_as r m n old new e t = subst (λ (x : Move). Tries r x old new) e t

-- after a token item that names no token a unit has the effect that it has alone
pub came_plain : (l : Listener) (tsdu : List ℕ) (p : PlainUnit) → said_at tsdu ≡ Ok (plain_said p)
    → moved l (respond_word (taker_of l) (plain_word p)) ≡ react l (came tsdu)
came_plain l tsdu p said = grind (arith, came_is, said_at, respond_word, word_behind)
