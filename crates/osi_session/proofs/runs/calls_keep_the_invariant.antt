-- Each accepted call keeps the invariant of a session.
use Rattle.osi_session.proofs.Vocabulary.{leb-true, ltb-true, and_parts, TokenSetting, TsduMaximumSize, are_sizes, Phase, Restarting, State}
use Rattle.osi_session.proofs.Vocabulary.{Numbers, FunctionalUnits, Tokens, point_sent, minor_confirmed, restarted_at, in_major}
use Rattle.osi_session.proofs.Vocabulary.{is_restart_due, may_hold, is_ready, is_wait_transport, without_tokens, IsSound, AreOrdered, Call}
use Rattle.osi_session.proofs.Vocabulary.{Accept, Minor, Major, MajorConfirm, Restart, HasSerial, Step, opened_with, is_restartable}
use Rattle.osi_session.proofs.Vocabulary.{last_number, needs, may_call, after, allowed, AllHold, ◌≡◌, refl, ℕ, ◌≤◌, ◌<◌, true, false, Ok}
use Rattle.osi_session.proofs.Vocabulary.{arith, is_major_due}
use Rattle.osi_session.proofs.tables.what_an_accepted_call_has_passed.{passed}
use Rattle.osi_session.proofs.tables.what_is_true_of_each_phase.{implied, excluded}
use Rattle.osi_session.proofs.values.what_sizes_are_agreed.{answered_are}
use Rattle.osi_session.proofs.runs.numbers_stay_in_order.{sent_ordered, major_ordered, restart_ordered}

-- a phase in which no token is held, no point is outstanding and no restart is due
pub bare : (p : Phase) (s : State) → in_major p ≡ false → is_restart_due p ≡ false → IsSound s → IsSound (without_tokens p s)
bare p s h0 h1 h2 = grind arith

-- a phase in which tokens may be held
pub holding_phase : (p : Phase) (s : State) → in_major p ≡ false → is_restart_due p ≡ false → may_hold p ≡ true
    → IsSound s → IsSound (record s { phase = p })
holding_phase p s h0 h1 h2 h3 = grind arith

-- the numbers move in a phase in which no restart is due
pub moved : (v : Numbers) (s : State) → AreOrdered s.base v → (in_major s.phase ≡ true → s.base < v.next) → is_restart_due s.phase ≡ false
    → IsSound s → IsSound (record s { numbers = v })
moved v s h0 h1 h2 h3 = grind arith

-- a connection that is opened
pub opened : (units : FunctionalUnits) (held : Tokens) (base : ℕ) (sizes : TsduMaximumSize) (s : State) → base ≤ 1000000 →
    are_sizes sizes ≡ true
    → IsSound s → IsSound (opened_with units held base sizes s)
opened units held base sizes s h0 h1 h2 = grind arith

restart_moved : (s : State) (n : ℕ) (w : TokenSetting) → is_restartable s n ≡ true → IsSound s
    → IsSound (record (without_tokens Restarting s) { wishes = w; numbers = restarted_at n s.numbers })
restart_moved s n w r h =
    let a = and_parts _ _ r in
    let low = leb-true s.numbers.lowest n a.0 in
    let top = leb-true n last_number (and_parts _ _ a.1).0 in
    grind (arith, restart_ordered s.base n s.numbers h.ordered (omega arith) (omega arith))

pub after_sound : (s : State) (c : Call) → HasSerial c → may_call s.phase c ≡ true → AllHold (needs s c) → IsSound s → IsSound (after s c)
unfolding minor_confirmed point_sent
after_sound s (Accept requirements serial sides sizes octets) small p t h = grind (arith, opened, answered_are)
after_sound s (Minor confirm octets) small p t h =
    let left = leb-true s.numbers.next last_number t.1.1.0 in
    let from = h.ordered.confirmed_from in moved (point_sent s.numbers) s (sent_ordered s.base s.numbers h.ordered (omega arith))
    (λ k. absurd (let m = excluded is_ready in_major refl s.phase p in cc))
    (excluded is_ready is_restart_due refl s.phase p) h
after_sound s (Major octets) small p t h = grind (arith, leb-true, sent_ordered)
after_sound s (MajorConfirm octets) small p t h =
    grind (arith, holding_phase, moved, major_ordered s.base s.numbers h.ordered, excluded is_major_due is_restart_due refl s.phase p)
after_sound s (Restart n wishes octets) small p t h = restart_moved s n _ t.1.0 h
after_sound s _ small p t h = grind (arith, implied, bare, holding_phase, and_parts, leb-true, ltb-true, moved, excluded)

-- an accepted call keeps what is true at all times
pub call_sound : (s : State) (c : Call) (x : Step) → HasSerial c → allowed s c ≡ Ok x → IsSound s → IsSound x.next
call_sound s c x small h sound = grind (arith, after_sound, passed s c x h)

pub call_begun : (s : State) (c : Call) (x : Step) → allowed s c ≡ Ok x → is_wait_transport x.next.phase ≡ false
call_begun s c x h = grind (arith, passed)
