-- A TSDU that is read without its units has the effect of one word.
-- For the fast path of sessions and for the count of a TSDU.
use Rattle.osi_session.proofs.Vocabulary.{SpduFault, Meaning, DT, GT, no_token, Word, Words, says, words_of, State, Taker, Outcome, enacted}
use Rattle.osi_session.proofs.Vocabulary.{heard, respond_word, respond_came, word_verdict, plain_said, plain_word, Listener, in_state}
use Rattle.osi_session.proofs.Vocabulary.{taker_of, moved, only_shows, outcome_of, Indication, shown_by, arith, ◌≡◌, ◌∙◌, sym, ap, ℕ, false}
use Rattle.osi_session.proofs.Vocabulary.{List, [], ◌∷◌, Option, Some, None, Result, Ok, PlainUnit, Reaction}
use Rattle.osi_session.proofs.tables.messages_act_as_the_table_says.{word_behind, words_of_message}
use Rattle.osi_session.proofs.tsdu.the_effect_of_a_word.{message_is}

-- data after a token item that names no token
pub comes_as_data : (read : Result Words SpduFault) (octets : List ℕ) (t : Taker) → read ≡ Ok (says (GT no_token) ∷ says (DT octets) ∷ [])
    → respond_came t read ≡ respond_word t (says (DT octets))
comes_as_data read octets t e = grind (arith, word_behind)

-- a unit of the fast path
pub comes_as_unit : (read : Result Words SpduFault) (p : PlainUnit) (w : Word) (t : Taker) → read ≡ Ok (plain_said p) → w ≡ plain_word p →
    respond_came t read ≡ respond_word t w
comes_as_unit read p w t e h = (grind (arith, word_behind)) ∙ ap (respond_word t) (sym h)

-- the words of a message
pub comes_as_message : (read : Result Words SpduFault) (m : Meaning) (t : Taker) → read ≡ Ok (words_of m) →
    respond_came t read ≡ respond_word t (says m)
comes_as_message read m t e = ap (respond_came t) e ∙ words_of_message t m

-- the effect of a message on a session, by what is in memory
pub message_heard : {v l : Listener} {k : Option (List ℕ)} {o : Outcome} (m : Meaning) (read : Result Words SpduFault) → v ≡ l →
    k ≡ v.joined
    → read ≡ Ok (words_of m) → (let t : Taker = record { state = v.state; joined = k } in enacted v.state m (word_verdict t (says m)) ≡ o)
    → respond_came (taker_of l) read ≡ heard l.joined o
message_heard {l = l} m read view same e h = grind (arith, comes_as_message read m (taker_of l) e, message_is (taker_of l) m)

-- a message that only has an indication and a new state
pub shows_alone : (l new : Listener) (r : Reaction) (next : State) (shown : Indication) →
    (let only : Reaction = record { next = next; shown = Some shown; reply = None; closes = false } in r ≡ only) → new ≡ in_state l next →
    moved l (heard l.joined (outcome_of r)) ≡ only_shows new (shown_by shown)
shows_alone l new r next shown e n = grind arith
