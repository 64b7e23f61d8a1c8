-- What a session answers a TSDU by at once can be sent, is alone in its TSDU, and is taken for that answer: an RF, AA,
-- or an AB without the user's bit. For the law that an honest session is explained.
use Rattle.osi_side.proofs.Vocabulary.{◌≡◌, ℕ, Bool, true, false, [], ◌∷◌, Option, Some, None, Result, if◌then◌else◌, arith, SpduFault}
use Rattle.osi_side.proofs.Vocabulary.{Meaning, AA, AB, RF, IsSendable, Word, Words, UnitFault, State, Taker, Hearing, respond_came}
use Rattle.osi_side.proofs.Vocabulary.{respond_word, is_over, Outcome, conditions, first_fault, in_aborting, si, outcome_in, word_does}
use Rattle.osi_message.specs.Written.{is_second, user_data_of}
use Rattle.osi_session.specs.Joining.{respond_words}
use Rattle.osi_session.specs.Respond.{judged}
use Rattle.osi_session.specs.Respond.{respond_fault, respond_unit, take_expected}
use Rattle.osi_session.specs.Standing.{answers}

pub record IsAnswer (m : Meaning) : Type 0 where
  pub itself : answers m m ≡ true
  pub alone : is_second m ≡ false
  pub sendable : IsSendable m

refuses : (reason : ℕ) → IsAnswer (RF reason [])
unfolding user_data_of is_second
refuses reason = grind arith

aborts : IsAnswer (AB 5 [])
unfolding user_data_of is_second
aborts = grind arith

accepts : IsAnswer AA
unfolding user_data_of is_second
accepts = grind arith

abbrev pub SaysItself : Option Meaning → Type 0
SaysItself None = Unit {0}
SaysItself (Some m) = IsAnswer m

abbrev Answers : Outcome → Type 0
Answers o = SaysItself o.reply

either : (b : Bool) (x y : Option Meaning) → SaysItself x → SaysItself y → SaysItself (if b then x else y)
either b x y h k = grind arith

either_outcome : (b : Bool) (x y : Outcome) → Answers x → Answers y → Answers (if b then x else y)
either_outcome b x y h k = grind arith

judged_itself : (s : State) (u : Meaning) (f : Option UnitFault) → Answers (judged s u f)
judged_itself s u f = grind (arith, either, refuses, accepts, aborts)

expected_itself : (s : State) (u : Meaning) → Answers (take_expected s u)
unfolding take_expected
expected_itself s u = judged_itself s u (first_fault (si u) (conditions s u))

aborting_itself : (s : State) (u : Meaning) → Answers (in_aborting s u)
aborting_itself s u = grind arith

unit_itself : (s : State) (u : Meaning) → Answers (respond_unit s u)
unfolding respond_unit
unit_itself s u = grind (arith, either_outcome, aborting_itself, accepts, aborts, expected_itself)

word_itself : (t : Taker) (w : Word) → Answers (outcome_in (respond_word t w))
word_itself t w = word_does Answers t w (record { acts = λ u a. unit_itself t.state u; bad = λ fault o. aborts; rests = tt })

either_hearing : (b : Bool) (x y : Hearing) → SaysItself x.reply → SaysItself y.reply → SaysItself (if b then x else y).reply
either_hearing b x y h k = grind arith

words_itself : (t : Taker) (ws : Words) → SaysItself (respond_words t ws).reply
unfolding respond_words
words_itself t [] = tt
words_itself t (w ∷ ws) = grind (arith, either_hearing, word_itself, words_itself (respond_word t w).next ws)

fault_itself : (s : State) (fault : SpduFault) → Answers (respond_fault s fault)
unfolding respond_fault
fault_itself s fault = either_outcome (is_over s.phase) _ _ tt aborts

pub came_itself : (t : Taker) (read : Result Words SpduFault) → SaysItself (respond_came t read).reply
came_itself t read = grind (arith, words_itself, fault_itself)
