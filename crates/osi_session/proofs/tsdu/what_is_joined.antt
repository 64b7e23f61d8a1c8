-- What is joined at all times: it is kept by the phase, and at most as much as one Data.
use Rattle.osi_session.proofs.Vocabulary.{is_some, length-append, most_data, may_hold, Word, Words, Taker, joined_octets, respond_word}
use Rattle.osi_session.proofs.Vocabulary.{respond_words, acting_words, respond_tsdu, IsKeptIn, IsKept, Input, Listener, react, after_input}
use Rattle.osi_session.proofs.Vocabulary.{after_inputs, ◌≡◌, ap, ℕ, ◌≤◌, true, List, [], ◌∷◌, length, Option, arith}
use Rattle.osi_session.proofs.tables.messages_act_as_the_table_says.{kept_twice, word_kept}
use Rattle.osi_session.proofs.tables.a_word_acts_as_its_message.{words_do}

-- ---- what each word leaves, words leave

all_leave : (P : Taker → Type 0) (t : Taker) (ws : Words) → ((r : Taker) (w : Word) → P r → P (respond_word r w).next) → P t →
    P (respond_words t ws).next
all_leave P t ws k h = words_do (λ t ws x. P t → P x.next) (λ t h. h) (λ t w ws h. k t w h) (λ t w ws more h. more (k t w h)) t ws h

-- ---- it is kept by the phase

abbrev pub InPhase : Taker → Type 0
InPhase t = IsKeptIn t.state.phase t.joined

word_in_phase : (t : Taker) (w : Word) → InPhase (respond_word t w).next
word_in_phase t w = ap (λ (r : Taker). r.joined) (word_kept t w)

pub words_in_phase : (t : Taker) (words : Words) → InPhase t → InPhase (respond_tsdu t words).next
words_in_phase t words h = all_leave InPhase t (acting_words words) (λ r w k. word_in_phase r w) h

-- ---- it is at most as much as one Data

abbrev pub Few : Option (List ℕ) → Type 0
Few joined = length (joined_octets joined) ≤ most_data

word_few : (t : Taker) (w : Word) → Few t.joined → Few (respond_word t w).next.joined
unfolding respond_word
word_few t w h = grind (arith, length-append)

pub words_few : (t : Taker) (words : Words) → Few t.joined → Few (respond_tsdu t words).next.joined
words_few t words h = all_leave (λ r. Few r.joined) t (acting_words words) word_few h

-- ---- whatever happens

pub input_kept : (l : Listener) (input : Input) → IsKept l → IsKept (after_input l input)
unfolding react
input_kept l input h0 = grind (arith, kept_twice, words_in_phase, words_few)

pub inputs_kept : (l : Listener) (inputs : List Input) → IsKept l → IsKept (after_inputs l inputs)
inputs_kept l [] h = h
inputs_kept l (input ∷ inputs) h = inputs_kept (after_input l input) inputs (input_kept l input h)

pub joined_holds : (l : Listener) → IsKept l → is_some l.joined ≡ true → may_hold l.state.phase ≡ true
joined_holds l k h = grind arith
