-- A session whose connection is not live answers a call as if it were not there.
use Rattle.osi_stack.proofs.Vocabulary.{OnOk, OnErr, IfErr, Carrying, Rows, value_at, State as Carrier, EndReason, allowed, Call, Listener}
use Rattle.osi_stack.proofs.Vocabulary.{called, answered, react, is_wait_transport, is_over, limit_of, CallError, Phase, has_given}
use Rattle.osi_stack.proofs.Vocabulary.{move_refusal, session_refusal, session_error, call_error, table_error, Refuses, by_rule, needs_link}
use Rattle.osi_stack.proofs.Vocabulary.{kept_at, IsSettled, Line, End, Holding, holding, SessionState as State, ◌≡◌, ℕ, Bool, true, false}
use Rattle.osi_stack.proofs.Vocabulary.{Option, Some, None, Result, Err, IsSome, refl, arith, no_link, Ended}
use Rattle.osi_session.specs.declared.faults.CallError.TheVariants as error

-- ---- a session that is over

over_phase : (p : Phase) → needs_link p ≡ false → is_wait_transport p ≡ false → is_over p ≡ true
over_phase p h k = grind arith

refused_over : (s : State) (call : Call) → is_over s.phase ≡ true → allowed s call ≡ Err error.Ended
unfolding allowed
refused_over s call h = rw h refl

-- what a session that is not there answers
record IsEnded (r : ℕ) (o : Option Listener) (call : Call) (c : Carrier) : Type 0 where
  refusal : session_refusal r o call c ≡ Some error.Ended
  error : session_error o call ≡ Some error.Ended

ended_over : (r : ℕ) (s : Listener) (call : Call) (c : Carrier) → is_over s.state.phase ≡ true → IsEnded r (Some s) call c
unfolding react
ended_over r s call c h = grind (arith, react, called, answered, refused_over, move_refusal, limit_of)

-- ---- one whose connection is not live

unneeded : (b o : Bool) → (b ≡ true → o ≡ true) → o ≡ false → b ≡ false
unneeded b o h k = grind arith

gone_phase : (r : ℕ) (s : Listener) (e : End) → IsSettled e → e.carrier.ended ≡ None → value_at r e.carrier.live ≡ None →
    kept_at r e.lines ≡ Some s → is_over s.state.phase ≡ true
gone_phase r s e settled lasts none kept =
    grind (arith, over_phase, unneeded, (settled.sound lasts).links lasts r s kept, no_link, settled.asks)

gone_by : (r : ℕ) (call : Call) (e : End) (o : Option Listener) (over : Option EndReason) → IsSettled e → value_at r e.carrier.live ≡ None →
    kept_at r e.lines ≡ o → e.carrier.ended ≡ over →
    IsEnded r o call e.carrier
gone_by r call e None over settled none kept is = record { refusal = refl; error = refl }
gone_by r call e (Some s) (Some reason) settled none kept is = grind (arith, settled.gone)
gone_by r call e (Some s) None settled none kept is = ended_over r s call e.carrier (gone_phase r s e settled is none kept)

-- ---- what was accepted

-- what a stack answers a call of this reference
pub record IsAnswered {A : Type 0} (result : Result A CallError) (r : ℕ) (call : Call) (e : End) : Type 0 where
  pub allowed : OnOk result (call_error r call e ≡ None)
  pub refused : IfErr result (λ f. Refuses f (table_error r call e) (call_error r call e))
  pub table : OnOk result (table_error r call e ≡ None)
  pub answered : IfErr result (λ f. by_rule f ≡ table_error r call e)
  pub over : OnOk result (e.carrier.ended ≡ None)

-- it is what the session answers that is there
pub answered_there : {A : Type 0} (result : Result A CallError) (r : ℕ) (call : Call) (e : End) → has_given r e.carrier ≡ true →
    IsSettled e → call_error r call e ≡ table_error r call e →
    (IsSome e.carrier.ended → IsSome (call_error r call e)) → OnOk result (session_refusal r (kept_at r e.lines) call e.carrier ≡ None) →
    IfErr result (λ f. Refuses f (session_error (kept_at r e.lines) call) (session_refusal r (kept_at r e.lines) call e.carrier)) →
    IsAnswered result r call e
answered_there result r call e given settled law over ok err = search (arith, gone_by)

-- ---- what became of the end

pub called_ok : {A F : Type 0} (result : Result A F) (old new : Holding) (next : End) → OnOk result (new.end ≡ next) → new.held ≡ old.held →
    OnOk result (new ≡ record old { end = next })
called_ok result old new next is held = grind arith

pub called_err : {A F : Type 0} (result : Result A F) (old new : Carrying) (lines left : Rows Line) →
    OnErr result ((left ≡ lines) × (new ≡ old)) → OnErr result (holding new left ≡ holding old lines)
called_err result old new lines left same = grind arith
