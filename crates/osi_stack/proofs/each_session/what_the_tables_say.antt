-- What the tables of sessions say, in the form in which it is used here.
use Rattle.osi_stack.proofs.Vocabulary.{Input, Listener, opened, is_opened, react, after_inputs, is_wait_transport, is_over, is_ended}
use Rattle.osi_stack.proofs.Vocabulary.{excluded, needs_link, arith, ◌≡◌, Bool, true, false, ◌||◌, List, [], ◌∷◌, refl}
use Rattle.osi_stack.proofs.carried.packets_without_events.{both}
use Rattle.osi_stack.proofs.carried.open_connections_stay_open.{SessionLaws}

-- ---- what happens to a session

pub unopened : (input : Input) → (input ≡ opened → ⊥) → is_opened input ≡ false
unopened input other = grind arith

pub record Published : Type 0 where
  pub over : (s : Listener) (inputs : List Input) → is_over s.state.phase ≡ true → is_over (after_inputs s inputs).state.phase ≡ true
  pub ended : (s : Listener) (inputs : List Input) → is_ended s.state.phase ≡ true → is_ended (after_inputs s inputs).state.phase ≡ true
  pub closed : (s : Listener) (input : Input) → (react s input).closes ≡ true → is_ended (react s input).next.state.phase ≡ true
  pub waiting : (s : Listener) (input : Input) → (input ≡ opened → ⊥) → is_wait_transport s.state.phase ≡ true →
      (is_wait_transport (react s input).next.state.phase || is_over (react s input).next.state.phase) ≡ true

stays_idle : Published → (s : Listener) (input : Input) (b : Bool) → (input ≡ opened → ⊥) → is_wait_transport s.state.phase ≡ b →
    needs_link s.state.phase ≡ false →
    needs_link (react s input).next.state.phase ≡ false
stays_idle law s input true other waits none = grind (arith, excluded, react)
stays_idle law s input false other waits none =
    grind (arith, excluded is_over needs_link refl (react s input).next.state.phase, law.over s (input ∷ []))

linked_by : Published → (s : Listener) (input : Input) (b : Bool) → (input ≡ opened → ⊥) →
    needs_link (react s input).next.state.phase ≡ true → needs_link s.state.phase ≡ b → b ≡ true
linked_by law s input b other needs e = grind (arith, both, react, stays_idle)

begun_by : Published → (s : Listener) (b : Bool) → is_ended s.state.phase ≡ b → needs_link (react s opened).next.state.phase ≡ true →
    b ≡ false
begun_by law s false e needs = refl
begun_by law s true e needs = grind (arith, both, excluded, react s opened, law.ended s (opened ∷ []) e)

pub session_laws : Published → SessionLaws
session_laws law = record {
  closed = law.closed;
  ended = λ s input h. law.ended s (input ∷ []) h;
  linked = λ s input other needs. linked_by law s input (needs_link s.state.phase) other needs refl;
  begun = λ s needs none. begun_by law s (is_ended s.state.phase) refl needs;
  unneeded = λ p h. excluded is_ended needs_link refl p h;
}
