-- The move of each input, from the answers of the tables.
use Rattle.std.proofs.Common.{arith, ◌≡◌, refl, sym, ◌∙◌, ap, ℕ, List, true, false, Some, None, Result, Ok, Err}
use Rattle.osi_session.specs.declared.faults.CallError.TheVariants as error
use Rattle.osi_session.proofs.Vocabulary.{SpduFault, Units, tsdu_at, said_at, said_by_units, said_if_read, State, CallError, Words}
use Rattle.osi_session.proofs.Vocabulary.{tsdus_of, tsdus_sent, Call, Step, Answer, allowed, respond_fault, lost, Hearing, heard}
use Rattle.osi_session.proofs.Vocabulary.{respond_tsdu, respond_came, called, taken, unread, opened, refused, broken, came, came_as}
use Rattle.osi_session.proofs.Vocabulary.{Listener, Move, taker_of, rests, in_state, answered, moved, begun, denied, react, after_input}
use Rattle.osi_session.proofs.Vocabulary.{Planned, IsPlanOf, limit_of, cases_Bool, is_wait_transport, is_over}

pub call_is : (s : Listener) (c : Call) (a : Answer) → allowed s.state c ≡ a → react s (called c) ≡ answered s a
unfolding react
call_is s c a e = ap (answered s) e

pub call_next : (s : Listener) (c : Call) (x : Step) → allowed s.state c ≡ Ok x → (react s (called c)).next ≡ in_state s x.next
call_next s c x e = ap (λ (m : Move). m.next) (call_is s c (Ok x) e)

pub call_sends : (s : Listener) (c : Call) (x : Step) → allowed s.state c ≡ Ok x →
    tsdus_of (limit_of s.state) x.sent ≡ tsdus_sent (limit_of s.state) (react s (called c)).reply
call_sends s c x e = sym (ap (λ (m : Move). tsdus_sent (limit_of s.state) m.reply) (call_is s c (Ok x) e))

pub call_reply : (s : Listener) (c : Call) (x : Step) → allowed s.state c ≡ Ok x → (react s (called c)).reply ≡ Some x.sent
call_reply s c x e = ap (λ (m : Move). m.reply) (call_is s c (Ok x) e)

pub call_errs : (s : Listener) (c : Call) (e : CallError) → allowed s.state c ≡ Err e → (react s (called c)).error ≡ Some e
call_errs s c e h = ap (λ (m : Move). m.error) (call_is s c (Err e) h)

pub call_passes : (s : Listener) (c : Call) (x : Step) → allowed s.state c ≡ Ok x → (react s (called c)).error ≡ None
call_passes s c x e = ap (λ (m : Move). m.error) (call_is s c (Ok x) e)

pub taken_is : (s : Listener) (words : Words) (h : Hearing) → respond_tsdu (taker_of s) words ≡ h → react s (taken words) ≡ moved s h
unfolding react
taken_is s words h e = ap (moved s) e

-- the octets of a TSDU: units, or octets that are none
pub came_is : (s : Listener) (read : Result Words SpduFault) (h : Hearing) → respond_came (taker_of s) read ≡ h →
    react s (came_as read) ≡ moved s h
unfolding react
came_is s read h e = grind arith

pub came_words : (tsdu : List ℕ) (units : Units) → tsdu_at tsdu ≡ Ok units → taken (said_by_units units) ≡ came tsdu
unfolding said_at
came_words tsdu units e = ap (λ (r : Result Units SpduFault). came_as (said_if_read r)) (sym e)

pub came_fault : (tsdu : List ℕ) (fault : SpduFault) → tsdu_at tsdu ≡ Err fault → unread fault ≡ came tsdu
unfolding said_at
came_fault tsdu fault e = ap (λ (r : Result Units SpduFault). came_as (said_if_read r)) (sym e)

-- ---- plans

-- what is committed of a plan is the move of its call
accepted : (s : Listener) (c : Call) (plan : Planned) (p : IsPlanOf c plan) → plan.was ≡ s.state →
    allowed s.state c ≡ Ok (record { next = plan.next; sent = p.0 })
accepted s c plan p e = ap (λ (x : State). allowed x c) (sym e) ∙ p.1

pub committed : (s : Listener) (c : Call) (plan : Planned) → IsPlanOf c plan → plan.was ≡ s.state →
    in_state s plan.next ≡ after_input s (called c)
committed s c plan p e = sym (call_next s c (record { next = plan.next; sent = p.0 }) (accepted s c plan p e))

pub committed_sends : (s : Listener) (c : Call) (plan : Planned) → IsPlanOf c plan → plan.was ≡ s.state →
    plan.sent ≡ tsdus_sent (limit_of s.state) (react s (called c)).reply
committed_sends s c plan p e =
    p.2 ∙ ap (λ (x : State). tsdus_of (limit_of x) p.0) e ∙ call_sends s c (record { next = plan.next; sent = p.0 }) (accepted s c plan p e)

pub over_refused : (s : State) (c : Call) → is_over s.phase ≡ true → allowed s c ≡ Err error.Ended
unfolding allowed
over_refused s c h = rw h refl

-- there is none of a session that is over
pub planned_live : (c : Call) (plan : Planned) → IsPlanOf c plan → is_over plan.was.phase ≡ false
planned_live c plan p = grind (arith, cases_Bool, over_refused)

-- what was decided and written is a plan
pub plan_of : (c : Call) (plan : Planned) (x : Step) → allowed plan.was c ≡ Ok x → plan.next ≡ x.next →
    plan.sent ≡ tsdus_of (limit_of plan.was) x.sent → IsPlanOf c plan
plan_of c plan x e n o = (x.sent, e ∙ ap (λ (s : State). Ok (let y : Step = record { next = s; sent = x.sent } in y)) (sym n), o)

-- ---- the move of each input

pub of_call : (s : Listener) (c : Call) → react s (called c) ≡ answered s (allowed s.state c)
unfolding react
of_call s c = refl

pub of_words : (s : Listener) (words : Words) → react s (taken words) ≡ moved s (respond_tsdu (taker_of s) words)
unfolding react
of_words s words = refl

pub of_fault : (s : Listener) (fault : SpduFault) → react s (unread fault) ≡ moved s (heard s.joined (respond_fault s.state fault))
unfolding react
of_fault s fault = refl

pub of_opened : (s : Listener) → is_wait_transport s.state.phase ≡ true → react s opened ≡ begun s
unfolding react
of_opened s w = rw w refl

pub of_refused : (s : Listener) (reason : ℕ) → is_wait_transport s.state.phase ≡ true → react s (refused reason) ≡ denied reason s
unfolding react
of_refused s reason w = rw w refl

pub of_broken : (s : Listener) → react s broken ≡ moved s (heard s.joined (lost s.state))
unfolding react
of_broken s = refl

pub not_opened : (s : Listener) → is_wait_transport s.state.phase ≡ false → react s opened ≡ rests s
unfolding react
not_opened s w = rw w refl

pub not_refused : (s : Listener) (reason : ℕ) → is_wait_transport s.state.phase ≡ false → react s (refused reason) ≡ rests s
unfolding react
not_refused s reason w = rw w refl
