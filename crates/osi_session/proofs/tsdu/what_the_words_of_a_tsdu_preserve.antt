-- What the words of a TSDU preserve.
use Rattle.osi_session.proofs.Vocabulary.{SpduFault, Aborting, State, is_wait_transport, IsSound, IsNumberedWord, AreNumberedWords, said_at}
use Rattle.osi_session.proofs.Vocabulary.{Word, Words, units_numbered, Taker, Hearing, respond_word, respond_tsdu, respond_came}
use Rattle.osi_session.proofs.Vocabulary.{respond_fault, arith, ◌≡◌, refl, subst, ℕ, List, true, Meaning, respond_unit}
use Rattle.osi_session.proofs.tables.the_outcomes_of_each_input.{unit_cases}
use Rattle.osi_session.proofs.runs.calls_keep_the_invariant.{bare}
use Rattle.osi_session.proofs.runs.units_keep_the_invariant.{unit_sound}
use Rattle.osi_session.proofs.tables.a_word_acts_as_its_message.{word_keeps, tsdu_keeps, any_tsdu_keeps}

-- what is true at all times
pub word_sound : (t : Taker) (w : Word) → IsNumberedWord w → IsSound t.state → IsSound (respond_word t w).next.state
word_sound t w small h =
    word_keeps IsSound t w (λ u a. unit_sound t.state u (grind arith) h) (λ o. bare Aborting t.state refl refl h) h

pub words_sound : (t : Taker) (words : Words) → AreNumberedWords words → IsSound t.state → IsSound (respond_tsdu t words).next.state
words_sound t words small h = tsdu_keeps IsSound IsNumberedWord t words word_sound small h

-- no unit goes back to awaiting the transport connection, and no word
abbrev pub Begins : State → State → Type 0
Begins s next = is_wait_transport next.phase ≡ true → is_wait_transport s.phase ≡ true

unit_begun : (s : State) (u : Meaning) → Begins s (respond_unit s u).next
unit_begun s u = unit_cases (Begins s) s u (grind arith)

word_begun : (t : Taker) (w : Word) → Begins t.state (respond_word t w).next.state
word_begun t w = word_keeps (Begins t.state) t w (λ u a. unit_begun t.state u) (λ o k. absurd (cc)) (λ k. k)

pub words_begun : (t : Taker) (words : Words) → is_wait_transport (respond_tsdu t words).next.state.phase ≡ true →
    is_wait_transport t.state.phase ≡ true
words_begun t words = any_tsdu_keeps (Begins t.state) t words (λ r w h k. h (word_begun r w k)) (λ k. k)

-- ---- a TSDU that is no session units

pub fault_sound : (s : State) (fault : SpduFault) → IsSound s → IsSound (respond_fault s fault).next
unfolding respond_fault
fault_sound s fault h = grind arith

pub fault_begun : (s : State) (fault : SpduFault) → is_wait_transport (respond_fault s fault).next.phase ≡ true →
    is_wait_transport s.phase ≡ true
unfolding respond_fault
fault_begun s fault = grind arith

-- ---- a TSDU as octets

pub octets_sound : (t : Taker) (tsdu : List ℕ) (h : Hearing) → respond_came t (said_at tsdu) ≡ h → IsSound t.state → IsSound h.next.state
unfolding said_at
octets_sound t tsdu h e sound = subst (λ (x : Hearing). IsSound x.next.state) e (grind (arith, words_sound, units_numbered, fault_sound))
