-- A session that has ended indicates nothing, whatever happens to it: a received unit, a call, or its transport
-- connection being opened, refused or lost.
use Rattle.osi_stack.proofs.Vocabulary.{SpduFault, Word, Words, SessionState as State, Input, Listener, react, is_ended, is_over, Phase}
use Rattle.osi_stack.proofs.Vocabulary.{implied, ◌≡◌, true, [], ◌∷◌, refl, arith, excluded, word_ended, Taker}
use Rattle.osi_session.specs.Joining.{respond_word, respond_words}
use Rattle.osi_session.specs.Respond.{respond_fault}

ended_over : (p : Phase) → is_ended p ≡ true → is_over p ≡ true
ended_over p h = implied is_ended is_over refl p h

-- ---- a word

word_silent : (t : Taker) (w : Word) → is_ended t.state.phase ≡ true → (respond_word t w).shown ≡ []
unfolding respond_word
word_silent t w h = search (arith, excluded)

words_silent : (t : Taker) (ws : Words) → is_ended t.state.phase ≡ true → (respond_words t ws).shown ≡ []
unfolding respond_words
words_silent t [] h = refl
words_silent t (w ∷ ws) h = grind (arith, word_silent, word_ended, words_silent (respond_word t w).next ws (word_ended t w h))

-- ---- all that can happen

fault_silent : (s : State) (fault : SpduFault) → is_ended s.phase ≡ true → (respond_fault s fault).shown ≡ []
unfolding respond_fault
fault_silent s fault h = let o = ended_over s.phase h in rw o refl

pub ended_silent : (s : Listener) (input : Input) → is_ended s.state.phase ≡ true → (react s input).shown ≡ []
unfolding react
ended_silent s input h = grind (arith, words_silent, fault_silent, excluded)
