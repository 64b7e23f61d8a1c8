-- The effect on a session of a call that its table accepts.
use Rattle.osi_session.proofs.Vocabulary.{Meaning, tsdus_of, tsdus_sent, Step, allowed, Call, HasSerial, kept_in, called, Listener}
use Rattle.osi_session.proofs.Vocabulary.{in_state, react, CanBeSent, limit_of, IsSound, arith, ◌≡◌, ℕ, None, Ok}
use Rattle.osi_session.proofs.moves.the_move_of_each_input.{call_next, call_sends, call_passes}
use Rattle.osi_session.proofs.sent.what_is_sent_can_be_written.{call_sendable}

pub record Accepts (limit : ℕ) (l : Listener) (c : Call) (x : Step) : Type 0 where
  pub leaves : (react l (called c)).next ≡ in_state l x.next
  pub sends : tsdus_of limit x.sent ≡ tsdus_sent (limit_of l.state) (react l (called c)).reply
  pub sendable : CanBeSent (react l (called c)).reply
  pub passes : (react l (called c)).error ≡ None

-- by what is in memory
pub accepts : {limit : ℕ} {v l : Listener} {c : Call} {x : Step} → allowed v.state c ≡ Ok x → v ≡ l → limit ≡ limit_of v.state →
    IsSound v.state → HasSerial c → Accepts limit l c x
accepts h view e sound small = search (arith, call_next, call_sends, call_sendable, call_passes)

-- a call that changes no state changes nothing
pub rests_by : (v l : Listener) (c : Call) (m : Meaning) → v ≡ l → kept_in v.state.phase v.joined ≡ v.joined →
    allowed v.state c ≡ Ok (record { next = v.state; sent = m })
    → l ≡ (react l (called c)).next
rests_by v l c m view kept h = grind (arith, react, call_next v c (record { next = v.state; sent = m }) h)
