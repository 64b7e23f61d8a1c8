-- What every run of a session preserves.
use Rattle.osi_session.proofs.Vocabulary.{AllByRecursion, Phase, Connecting, Aborting, Ended, State, is_wait_transport, is_ended, is_over}
use Rattle.osi_session.proofs.Vocabulary.{IsSound, Meaning, respond_unit, Opening, awaiting, asking, Input, broken, Listener, taker_of}
use Rattle.osi_session.proofs.Vocabulary.{react, after_input, after_inputs, HasNumbers, HasNumbersInWords, IsFresh, in_words, Taker}
use Rattle.osi_session.proofs.Vocabulary.{respond_word, respond_tsdu, Said, AreNumbered, AreNumberedWords, Word, Words, says, ◌≡◌, refl}
use Rattle.osi_session.proofs.Vocabulary.{true, List, [], ◌∷◌, map, arith, subst}
use Rattle.osi_session.proofs.tables.the_outcomes_of_each_input.{unit_cases, input_cases}
use Rattle.osi_session.specs.declared.faults.CallError.TheVariants as error
use Rattle.osi_session.specs.Moves as whole
use Rattle.osi_session.proofs.tables.a_word_acts_as_its_message.{word_keeps, any_tsdu_keeps}
use Rattle.osi_session.proofs.tables.messages_act_as_the_table_says.{run_as_whole}
use Rattle.osi_session.proofs.tsdu.what_the_words_of_a_tsdu_preserve.{Begins, words_sound, words_begun}
use Rattle.osi_session.proofs.tables.what_is_true_of_each_phase.{implied, excluded}
use Rattle.osi_session.proofs.moves.the_move_of_each_input.{over_refused}
use Rattle.osi_session.proofs.runs.calls_keep_the_invariant.{bare, call_sound, call_begun}
use Rattle.osi_session.proofs.values.what_sizes_are_agreed.{user_sizes}

-- ---- what is true at all times

pub input_sound : (s : Listener) (input : Input) → HasNumbersInWords input → IsSound s.state → IsSound (after_input s input).state
input_sound s input has h = input_cases IsSound s input (record {
  same = h;
  call = λ c x i e. call_sound s.state c x (subst HasNumbersInWords i has) e h;
  words = λ ws i. words_sound (taker_of s) ws (subst HasNumbersInWords i has) h;
  bad = λ o. bare Aborting s.state refl refl h;
  begun = λ i w. bare Connecting s.state refl refl h;
  ended = bare Ended s.state refl refl h;
})

pub inputs_sound : (s : Listener) (inputs : List Input) → AllByRecursion HasNumbersInWords inputs → IsSound s.state →
    IsSound (after_inputs s inputs).state
inputs_sound s [] has h = h
inputs_sound s (input ∷ inputs) has h = inputs_sound (after_input s input) inputs has.1 (input_sound s input has.0 h)

-- and over whole messages, which are words
in_numbers : (input : whole.Input) → HasNumbers input → HasNumbersInWords (in_words input)
in_numbers (whole.called c) h = h
in_numbers (whole.taken said) h = says_numbered said h
  where
    says_numbered : (said : Said) → AreNumbered said → AreNumberedWords (map says said)
    says_numbered [] h = tt
    says_numbered (m ∷ said) h = (h.0, says_numbered said h.1)
in_numbers _ h = tt

all_in_numbers : (inputs : List whole.Input) → AllByRecursion HasNumbers inputs → AllByRecursion HasNumbersInWords (map in_words inputs)
all_in_numbers [] h = tt
all_in_numbers (input ∷ inputs) h = (in_numbers input h.0, all_in_numbers inputs h.1)

pub whole_sound : (s : whole.Standing) (inputs : List whole.Input) → AllByRecursion HasNumbers inputs → IsSound s.state →
    IsSound (whole.after_inputs s inputs).state
whole_sound s inputs has h = grind (arith, run_as_whole, inputs_sound, all_in_numbers)

pub awaiting_fresh : IsFresh awaiting
awaiting_fresh = record { phase = refl; held = refl; base = refl; numbers = refl; first = omega arith; sizes = refl }

pub asking_fresh : (o : Opening) → IsFresh (asking o)
asking_fresh o = grind (arith, user_sizes)

pub fresh_sound : (s : State) → IsFresh s → IsSound s
fresh_sound s h = grind (arith, excluded)

-- ---- what is over stays over

pub unit_over : (s : State) (u : Meaning) → is_over s.phase ≡ true → is_over (respond_unit s u).next.phase ≡ true
unit_over s u h = unit_cases (λ next. is_over next.phase ≡ true) s u (grind (arith, implied))

pub unit_ended : (s : State) (u : Meaning) → is_ended s.phase ≡ true → is_ended (respond_unit s u).next.phase ≡ true
unit_ended s u h = unit_cases (λ next. is_ended next.phase ≡ true) s u (grind arith)

ended_over : (p : Phase) → is_ended p ≡ true → is_over p ≡ true
ended_over p h = implied is_ended is_over refl p h

abbrev IsOver : State → Type 0
IsOver s = is_over s.phase ≡ true

abbrev HasEnded : State → Type 0
HasEnded s = is_ended s.phase ≡ true

pub word_over : (t : Taker) (w : Word) → is_over t.state.phase ≡ true → is_over (respond_word t w).next.state.phase ≡ true
word_over t w h = word_keeps IsOver t w (λ u a. unit_over t.state u h) (λ o. refl) h

pub word_ended : (t : Taker) (w : Word) → is_ended t.state.phase ≡ true → is_ended (respond_word t w).next.state.phase ≡ true
word_ended t w h = word_keeps HasEnded t w (λ u a. unit_ended t.state u h) (λ o. absurd (let e = ended_over t.state.phase h in cc)) h

words_over : (t : Taker) (words : Words) → is_over t.state.phase ≡ true → is_over (respond_tsdu t words).next.state.phase ≡ true
words_over t words h = any_tsdu_keeps IsOver t words word_over h

words_ended : (t : Taker) (words : Words) → is_ended t.state.phase ≡ true → is_ended (respond_tsdu t words).next.state.phase ≡ true
words_ended t words h = any_tsdu_keeps HasEnded t words word_ended h

pub input_over : (s : Listener) (input : Input) → is_over s.state.phase ≡ true → is_over (after_input s input).state.phase ≡ true
input_over s input h = input_cases IsOver s input (grind (arith, over_refused, excluded, words_over))

pub input_ended : (s : Listener) (input : Input) → is_ended s.state.phase ≡ true → is_ended (after_input s input).state.phase ≡ true
input_ended s input h = input_cases HasEnded s input (grind (arith, over_refused, ended_over, excluded, words_ended))

pub stays_over : (s : Listener) (inputs : List Input) → is_over s.state.phase ≡ true → is_over (after_inputs s inputs).state.phase ≡ true
stays_over s [] h = h
stays_over s (input ∷ inputs) h = stays_over (after_input s input) inputs (input_over s input h)

pub stays_ended : (s : Listener) (inputs : List Input) → is_ended s.state.phase ≡ true → is_ended (after_inputs s inputs).state.phase ≡ true
stays_ended s [] h = h
stays_ended s (input ∷ inputs) h = stays_ended (after_input s input) inputs (input_ended s input h)

-- ---- no session goes back to awaiting the transport connection

pub input_begun : (s : Listener) (input : Input) → is_wait_transport (after_input s input).state.phase ≡ true →
    is_wait_transport s.state.phase ≡ true
input_begun s input = input_cases (Begins s.state) s input (grind (arith, call_begun, words_begun))

pub lost_ended : (s : Listener) → is_ended (after_input s broken).state.phase ≡ true
unfolding react
lost_ended s = refl
