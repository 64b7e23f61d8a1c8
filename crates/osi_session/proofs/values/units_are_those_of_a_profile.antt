-- The functional units of a session are those of a profile.
use Rattle.osi_session.proofs.Vocabulary.{unit_bits, eqb-true, and_parts, Meaning, Word, Opening, State, Step, may_call, needs, after}
use Rattle.osi_session.proofs.Vocabulary.{allowed, AllHold, Call, Taker, respond_word, Input, Listener, taker_of, after_input, after_inputs}
use Rattle.osi_session.proofs.Vocabulary.{IsOfProfile, has_profile, HasProfile, is_wait_transport, is_expected, conditions, becomes}
use Rattle.osi_session.proofs.Vocabulary.{respond_unit, AllMet, awaiting, asking, functional_units, both_units, has_data, is_profile, ◌≡◌}
use Rattle.osi_session.proofs.Vocabulary.{refl, ℕ, true, List, [], ◌∷◌, Ok, arith, and_assoc, and_le_r, AC}
use Rattle.osi_session.proofs.tables.the_outcomes_of_each_input.{unit_cases, input_cases}
use Rattle.osi_session.proofs.tables.what_an_accepted_call_has_passed.{passed}
use Rattle.osi_session.proofs.tables.what_is_true_of_each_phase.{implied}
use Rattle.osi_session.proofs.tables.a_word_acts_as_its_message.{word_keeps, any_tsdu_keeps}

-- ---- the profile of requirements

pub profile_of : (bits : ℕ) → is_profile bits ≡ true → IsOfProfile (functional_units bits)
unfolding is_profile
profile_of bits h = grind (arith, eqb-true, and_parts, and_assoc, and_le_r)

-- ---- what each input leaves

after_profile : (s : State) (c : Call) → may_call s.phase c ≡ true → AllHold (needs s c) → HasProfile s → HasProfile (after s c)
after_profile s c m n h = grind (arith, profile_of, and_parts, is_profile, implied)

call_profile : (s : State) (c : Call) (x : Step) → allowed s c ≡ Ok x → HasProfile s → HasProfile x.next
call_profile s c x e h = search (arith, passed, after_profile)

becomes_profile : (s : State) (u : Meaning) → is_expected s.phase u ≡ true → AllMet (conditions s u) → HasProfile s →
    HasProfile (becomes s u)
unfolding both_units has_data
becomes_profile s (AC version_2 requirements serial sides sizes octets) x m h =
    grind (arith, and_parts, has_data, both_units, implied)
becomes_profile s _ x m h = grind (arith, implied)

unit_profile : (s : State) (u : Meaning) → HasProfile s → HasProfile (respond_unit s u).next
unit_profile s u h = unit_cases HasProfile s u (grind (arith, becomes_profile))

word_profile : (t : Taker) (w : Word) → HasProfile t.state → HasProfile (respond_word t w).next.state
word_profile t w h = word_keeps HasProfile t w (λ u a. unit_profile t.state u h) (λ o k. absurd (cc)) h

input_profile : (l : Listener) (input : Input) → HasProfile l.state → HasProfile (after_input l input).state
input_profile l input h = input_cases HasProfile l input (record {
  same = h;
  call = λ c x i e. call_profile l.state c x e h;
  words = λ ws i. any_tsdu_keeps HasProfile (taker_of l) ws word_profile h;
  bad = λ o k. absurd (cc);
  begun = λ i w k. h (implied is_wait_transport has_profile refl l.state.phase w);
  ended = λ k. absurd (cc);
})

pub inputs_profile : (l : Listener) (inputs : List Input) → HasProfile l.state → HasProfile (after_inputs l inputs).state
inputs_profile l [] h = h
inputs_profile l (input ∷ inputs) h = inputs_profile (after_input l input) inputs (input_profile l input h)

pub awaiting_profile : HasProfile awaiting
awaiting_profile k = absurd (cc)

pub asking_profile : (o : Opening) → is_profile (unit_bits o.requirements) ≡ true → HasProfile (asking o)
asking_profile o h k = profile_of (unit_bits o.requirements) h
