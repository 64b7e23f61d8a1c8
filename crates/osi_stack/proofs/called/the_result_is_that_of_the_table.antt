-- The result of a call is the one that the table of its session gives.
use Rattle.std.proofs.Common.{◌≡◌, ℕ, true, List, Some, None, Ok, Err, ap, subst, arith}
use Rattle.osi_session.specs.declared.faults.CallError.TheVariants as error
use Rattle.osi_stack.proofs.Vocabulary.{AllByRecursion, or_right, IsSendable, Step, Answer, allowed, Passed, Call, HasSerial, Input}
use Rattle.osi_stack.proofs.Vocabulary.{Listener, called, answered, react, after_inputs, is_wait_cn, may_abort, HasNumbersInWords, IsFresh}
use Rattle.osi_stack.proofs.Vocabulary.{awaiting, asking, limit_of, Opening, opening_of, move_refusal, call_error, table_error, CameAbout}
use Rattle.osi_stack.proofs.Vocabulary.{AllCameAbout, needs_link, Soundness, kept_at, End, IsSoundState, SessionState as State}
use Rattle.osi_stack.proofs.carried.what_a_move_leaves.{line_of}
use Rattle.osi_stack.proofs.called.tsdus_that_are_handed_together.{lengths_fit}
use Rattle.osi_stack.proofs.called.what_is_sent_is_short.{SpduLaws, tsdus_short}
use Rattle.osi_stack.proofs.each_line.what_stays_true_of_each_line.{line_at}

-- what the crates below say
pub record Below : Type 0 where
  pub spdu : SpduLaws
  pub fresh_called : IsFresh awaiting
  pub fresh_asking : (o : Opening) → IsFresh (asking o)
  pub begins : (s : State) → IsFresh s → IsSoundState s
  pub kept : (s : Listener) (inputs : List Input) → AllByRecursion HasNumbersInWords inputs → IsSoundState s.state →
      IsSoundState (after_inputs s inputs).state
  pub sendable : (s : State) (c : Call) (x : Step) → IsSoundState s → HasSerial c → allowed s c ≡ Ok x → IsSendable x.sent
  pub passed : (s : State) (c : Call) (x : Step) → allowed s c ≡ Ok x → Passed s c x
  pub phase : (s : State) (c : Call) (x : Step) → allowed s c ≡ Ok x → may_abort s.phase ≡ true

-- ---- the carrier takes what a call sends

answer_by : Below → (r : ℕ) (call : Call) (e : End) (s : Listener) (a : Answer) → allowed s.state call ≡ a → HasSerial call →
    e.carrier.ended ≡ None → Soundness e →
    kept_at r e.lines ≡ Some s → CameAbout s →
    move_refusal r (limit_of s.state) (react s (called call)) e.carrier ≡ (react s (called call)).error
unfolding react
answer_by law r call e s (Err err) allows serial lasts sound here came = grind arith
answer_by law r call e s (Ok x) allows serial lasts sound here came =
    let is : react s (called call) ≡ answered s (Ok x) = ap (answered s) allows in
    let state = (subst (λ (x : Listener). IsSoundState x.state) came.is
    (law.kept came.first came.inputs came.numbered (grind (arith, awaiting, asking, opening_of)))) in
    let short = tsdus_short law.spdu s.state call x state allows (law.passed s.state call x allows)
    (law.sendable s.state call x state serial allows) in
    let needs : needs_link s.state.phase ≡ true =
    or_right (is_wait_cn s.state.phase) (may_abort s.state.phase) (law.phase s.state call x allows) in
    grind (arith, lengths_fit, sound.links lasts r s here needs)

pub answered_is : Below → (r : ℕ) (call : Call) (e : End) → HasSerial call → e.carrier.ended ≡ None → Soundness e → AllCameAbout e.lines →
    call_error r call e ≡ table_error r call e
answered_is law r call e serial lasts sound all =
    grind (arith, line_of, line_at, answer_by, allowed)
