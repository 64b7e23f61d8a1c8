-- A session of an end that has joined nothing makes the same moves as the session of the tables.
-- For sessions, calls, packets and the promises.
use Rattle.osi_session.specs.Listening as words
use Rattle.osi_pair.proofs.Vocabulary.{◌≡◌, Some, ℕ, List, Option, None, Ok, Err, true, refl, ◌++◌, ◌≤◌, length, subst, arith, taken_is}
use Rattle.osi_pair.proofs.Vocabulary.{came_by, Input, Standing, Move, react, called, taken, listening, in_words, is_apart, kept_none}
use Rattle.osi_pair.proofs.Vocabulary.{moves_as_whole, others, word_behind, words_of_message, Listener, Answer, allowed, Call, respond_word}
use Rattle.osi_pair.proofs.Vocabulary.{IsKeptIn, IsJoinedAs, IsNoFault, IsJoined, IsKept, call_keeps, first_arrives, middle_arrives}
use Rattle.osi_pair.proofs.Vocabulary.{last_arrives, joining, IsInOrder, part_comes, DT, said_of, says, First, Middle, Last, inputs_kept}
use Rattle.osi_pair.proofs.Vocabulary.{kept_at, End, value_at, SessionState as State, PartPlace as Place}
use Rattle.osi_session.specs.Allowed.{most_data}
use Rattle.osi_session.specs.Joining.{kept_in}
use Rattle.osi_message.specs.Words.{part}

-- a move of the session of the tables, as that of the end makes it
abbrev pub as_made : Move → words.Move
as_made m = record { next = listening m.next; shown = m.shown; reply = m.reply; closes = m.closes; error = m.error }

-- the relation between the two
pub moves_so : (s : Standing) (input : Input) → words.react (listening s) (in_words input) ≡ as_made (react s input)
moves_so s input = grind (arith, kept_none, moves_as_whole)

-- a session that has joined something makes the same moves except for messages that arrive, and keeps by its phase
-- what it has joined
pub moves_apart : (joined : Option (List ℕ)) (s : Standing) (input : Input) → IsKeptIn s.state.phase joined → is_apart input ≡ true →
    kept_in (react s input).next.state.phase joined ≡ None → words.react (joining joined s) (in_words input) ≡ as_made (react s input)
moves_apart joined s input kept apart none = search (arith, others (joining joined s) input kept apart)

-- a call
abbrev SameCall : Option (List ℕ) → words.Move → Move → Type 0
SameCall joined m n = (m.next ≡ joining m.next.joined n.next) × (m.reply ≡ n.reply) × (m.error ≡ n.error)

pub calls_so : (joined : Option (List ℕ)) (s : Standing) (c : Call) →
    SameCall joined (words.react (joining joined s) (words.called c)) (react s (called c))
unfolding words.react react
calls_so joined s c = grind arith

-- what has begun is joined then, as it was
answers_keep : (l : Listener) (c : Call) (a : Answer) (begun : Option (List ℕ)) → allowed l.state c ≡ a →
    IsJoinedAs l.state l.joined begun → IsJoinedAs (words.answered l a).next.state (words.answered l a).next.joined begun
answers_keep l c (Ok x) begun is h = call_keeps l.state l.joined begun c x is h
answers_keep l c (Err e) begun is h = h

pub calls_keep : (l : Listener) (c : Call) (begun : Option (List ℕ)) → IsJoinedAs l.state l.joined begun →
    IsJoinedAs (words.react l (words.called c)).next.state (words.react l (words.called c)).next.joined begun
unfolding words.react
calls_keep l c begun h = answers_keep l c (allowed l.state c) begun refl h

-- nothing has begun
pub none_joined : (s : State) (joined : Option (List ℕ)) → IsJoinedAs s joined None → joined ≡ None
none_joined s joined h2 = grind arith

-- ---- parts of one Data

-- One that is not the last indicates and sends nothing, and is joined to what has begun.
pub record PartJoins (joined : Option (List ℕ)) (x : Standing) (place : Place) (octets : List ℕ) (begun : Option (List ℕ)) : Type 0 where
  pub now : Option (List ℕ)
  pub is : words.react (joining joined x) (part_comes place octets) ≡ words.rests (joining now x)
  pub stands : IsJoinedAs x.state now begun

joins_by : (joined : Option (List ℕ)) (x : Standing) (place : Place) (octets : List ℕ) (begun : Option (List ℕ)) →
    IsJoined x.state joined (part place octets) begun → PartJoins joined x place octets begun
joins_by joined x place octets begun j = grind (arith, taken_is, word_behind)

pub first_joins : (joined : Option (List ℕ)) (x : Standing) (octets all : List ℕ) → length octets ≤ most_data →
    IsKeptIn x.state.phase joined → IsNoFault x.state all → IsJoinedAs x.state joined None → PartJoins joined x First octets (Some octets)
first_joins joined x octets all short kept fine stands = grind (arith, joins_by, first_arrives)

pub middle_joins : (joined : Option (List ℕ)) (x : Standing) (b octets all : List ℕ) → length (b ++ octets) ≤ most_data →
    IsKeptIn x.state.phase joined → IsNoFault x.state all → IsJoinedAs x.state joined (Some b) →
    PartJoins joined x Middle octets (Some (b ++ octets))
middle_joins joined x b octets all short kept fine stands = grind (arith, joins_by, middle_arrives)

-- the last does what the whole Data does
pub last_moves : (joined : Option (List ℕ)) (x : Standing) (front last : List ℕ) → length (front ++ last) ≤ most_data →
    IsKeptIn x.state.phase joined → IsNoFault x.state (front ++ last) → IsJoinedAs x.state joined (Some front) →
    words.react (joining joined x) (part_comes Last last) ≡ as_made (react x (taken (said_of (DT (front ++ last)))))
last_moves joined x front last short kept fine stands =
    let h = respond_word (record { state = x.state; joined = None }) (says (DT (front ++ last))) in
    grind (arith, taken_is, word_behind, last_arrives, words_of_message, moves_so x (taken (said_of (DT (front ++ last)))))

-- ---- the phase of a session of an end keeps what it has joined

pub kept_of : (r : ℕ) (s : Listener) (e : End) → IsInOrder e → kept_at r e.lines ≡ Some s → IsKept s
kept_of r s e order is = let h =
    came_by r s e.lines (value_at r e.lines) refl is order.came in subst IsKept h.is (inputs_kept h.first h.inputs (grind (arith, h.fresh)))
