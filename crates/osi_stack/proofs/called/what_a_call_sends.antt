-- What a call sends, and what it does not do.
use Rattle.std.proofs.Common.{◌≡◌, ℕ, false, List, [], Some, None, is_none, Result, Ok, Err, OnOk, IfErr, arith}
use Rattle.osi_stack.proofs.Vocabulary.{append-nil, Carrying, send_all_error, open_link, State as Carrier, tsdus_sent, Call, CallError}
use Rattle.osi_stack.proofs.Vocabulary.{Listener, Move, called, react, limit_of, send_refusal, move_refusal, Refuses, answers, line_by}
use Rattle.osi_stack.proofs.Vocabulary.{carrier_by, Line, hands}

-- a call indicates nothing and closes nothing, and one that is accepted sends something
pub record IsCall (move : Move) : Type 0 where
  pub shown : move.shown ≡ []
  pub closes : move.closes ≡ false
  pub sends : move.error ≡ None → is_none move.reply ≡ false

pub call_is : (s : Listener) (call : Call) → IsCall (react s (called call))
unfolding react
call_is s call = grind arith

-- ---- the carrier's answer to what a call sends

pub call_handed : {A E : Type 0} (result : Result A E) (s : Listener) (call : Call) (sent tsdus : List (List ℕ)) (r limit : ℕ)
    (c d : Carrying) → (react s (called call)).error ≡ None →
    sent ≡ tsdus_sent limit (react s (called call)).reply → tsdus ≡ sent →
    OnOk result (d ≡ record c { state = hands r tsdus c.state }) →
    OnOk result (d ≡ record c { state = answers r limit (react s (called call)) c.state })
call_handed (Err f) s call sent tsdus r limit c d none e same h = tt
call_handed (Ok a) s call sent tsdus r limit c d none e same h = grind (arith, react, call_is)

pub call_allowed : {A E : Type 0} (result : Result A E) (s : Listener) (call : Call) (sent tsdus : List (List ℕ)) (r limit : ℕ)
    (c : Carrier) → (react s (called call)).error ≡ None →
    sent ≡ tsdus_sent limit (react s (called call)).reply → tsdus ≡ sent →
    OnOk result (send_refusal (send_all_error tsdus (open_link r c)) ≡ None) →
    OnOk result (move_refusal r limit (react s (called call)) c ≡ None)
call_allowed result s call sent tsdus r limit c none e same h = grind arith

pub call_refused : {A : Type 0} (result : Result A CallError) (s : Listener) (call : Call) (sent tsdus : List (List ℕ)) (r limit : ℕ)
    (c : Carrier) → (react s (called call)).error ≡ None →
    sent ≡ tsdus_sent limit (react s (called call)).reply → tsdus ≡ sent →
    IfErr result (λ e. Refuses e None (send_refusal (send_all_error tsdus (open_link r c)))) →
    IfErr result (λ e. Refuses e (react s (called call)).error (move_refusal r limit (react s (called call)) c))
call_refused result s call sent tsdus r limit c none e same h = search (arith, react, call_is)

-- ---- the line and the carrier after a call

pub called_line : {A E : Type 0} (result : Result A E) (r : ℕ) (l : Line) (v : ℕ × Line) (s t : Listener) (call : Call) → (r, l) ≡ v →
    l.session ≡ Some s →
    OnOk result (t ≡ (react s (called call)).next) →
    OnOk result (◌≡◌ {A = ℕ × Line} (r, record l { session = Some t }) (v.0, line_by v.1 v.1.session (called call)))
called_line result r l v s t call is here h = grind (arith, react, called, line_by, append-nil, call_is)

pub called_carrier : {A E : Type 0} (result : Result A E) (r : ℕ) (l : Line) (v : ℕ × Line) (s : Listener) (c d : Carrying) (call : Call) →
    (r, l) ≡ v → l.session ≡ Some s →
    OnOk result (d ≡ record c { state = answers r (limit_of s.state) (react s (called call)) c.state }) →
    OnOk result (d ≡ record c { state = carrier_by v.0 v.1.session (called call) c.state })
called_carrier result r l v s c d call is here h = grind arith
