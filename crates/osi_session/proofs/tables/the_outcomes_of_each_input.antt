-- The outcomes of each input.
use Rattle.std.proofs.Common.{◌≡◌, Bool, true, false, not, Ok, if◌then◌else◌, arith}
use Rattle.osi_session.proofs.Vocabulary.{SpduFault, Connecting, Aborting, Ended, State, is_wait_transport, is_aborting, is_ended, is_over}
use Rattle.osi_session.proofs.Vocabulary.{without_tokens, Call, Meaning, Words, Step, allowed, Outcome, conditions, is_expected, drops}
use Rattle.osi_session.proofs.Vocabulary.{becomes, take_expected, in_aborting, in_ended, respond_unit, AllMet, respond_fault, respond_tsdu}
use Rattle.osi_session.proofs.Vocabulary.{called, taken, unread, opened, Listener, taker_of, react, after_input, Input}

pub call_cases : (P : State → Type 0) (s : Listener) (c : Call) → P s.state
    → ((x : Step) → allowed s.state c ≡ Ok x → P x.next) → P (after_input s (called c)).state
unfolding react
call_cases P s c h k = grind arith

-- the state after a unit: the same; or the end, if an abort is answered; or the abort, if it is bad; or what the table
-- says
pub record Leaves (P : State → Type 0) (s : State) (u : Meaning) : Type 0 where
  pub same : P s
  pub ended : is_aborting s.phase ≡ true → P (without_tokens Ended s)
  pub bad : is_aborting s.phase ≡ false → is_ended s.phase ≡ false → P (without_tokens Aborting s)
  pub good : is_aborting s.phase ≡ false → is_ended s.phase ≡ false → is_expected s.phase u ≡ true → AllMet (conditions s u) →
      P (becomes s u)

either : (P : State → Type 0) (b : Bool) (x y : Outcome) → (b ≡ true → P x.next) → (b ≡ false → P y.next) → P (if b then x else y).next
either P b x y h k = grind arith

expected_cases : (P : State → Type 0) (s : State) (u : Meaning) → P (without_tokens Aborting s) →
    (AllMet (conditions s u) → P (becomes s u)) → P (take_expected s u).next
unfolding take_expected
expected_cases P s u h k = grind arith

aborting_cases : (P : State → Type 0) (s : State) (u : Meaning) → P s → P (without_tokens Ended s) → P (in_aborting s u).next
aborting_cases P s u h0 h1 = grind arith

ended_cases : (P : State → Type 0) (s : State) (u : Meaning) → P s → P (in_ended s u).next
ended_cases P s u h = grind arith

pub unit_cases : (P : State → Type 0) (s : State) (u : Meaning) → Leaves P s u → P (respond_unit s u).next
unfolding respond_unit
unit_cases P s u h =
    either P (is_aborting s.phase) _ _ (λ a. aborting_cases P s u h.same (h.ended a)) (λ a.
    either P (is_ended s.phase) _ _ (λ e. ended_cases P s u h.same) (λ e.
    either P (drops s u) _ _ (λ n. h.same) (λ n.
    either P (not (is_expected s.phase u)) _ _ (λ x. h.bad a e) (λ x.
    expected_cases P s u (h.bad a e) (λ met. h.good a e (grind arith) met)))))

-- a TSDU that is no session units
pub fault_cases : (P : State → Type 0) (s : Listener) (fault : SpduFault) → P s.state
    → (is_over s.state.phase ≡ false → P (without_tokens Aborting s.state)) → P (after_input s (unread fault)).state
unfolding react respond_fault
fault_cases P s fault h k = either P (is_over s.state.phase) _ _ (λ o. h) k

pub taken_cases : (P : State → Type 0) (s : Listener) (words : Words) → P (respond_tsdu (taker_of s) words).next.state →
    P (after_input s (taken words)).state
unfolding react
taken_cases P s words h = h

-- the state after any input: the same, or that of an accepted call, of the words of a TSDU, of a TSDU that is no session
-- units, of a transport connection that is opened, or of the end
pub record AfterInput (P : State → Type 0) (s : Listener) (input : Input) : Type 0 where
  pub same : P s.state
  pub call : (c : Call) (x : Step) → input ≡ called c → allowed s.state c ≡ Ok x → P x.next
  pub words : (ws : Words) → input ≡ taken ws → P (respond_tsdu (taker_of s) ws).next.state
  pub bad : is_over s.state.phase ≡ false → P (without_tokens Aborting s.state)
  pub begun : input ≡ opened → is_wait_transport s.state.phase ≡ true → P (without_tokens Connecting s.state)
  pub ended : P (without_tokens Ended s.state)

pub input_cases : (P : State → Type 0) (s : Listener) (input : Input) → AfterInput P s input → P (after_input s input).state
unfolding react respond_fault
input_cases P s input h = grind arith
