-- Data for which one TSDU has room now is accepted, and sent in one TSDU.
-- For `goes_whole` of sessions.
use Rattle.osi_session.proofs.Vocabulary.{le-leb, lt-ltb, ltb-true, or_left, or_right, DT, is_whole, State, is_ready, has_right, allowed}
use Rattle.osi_session.proofs.Vocabulary.{Data, limit_of, most_data, most_whole, most_within, ◌≡◌, ◌<◌, ◌≤◌, ℕ, ◌+◌, ◌-◌, ◌==◌, Bool, true}
use Rattle.osi_session.proofs.Vocabulary.{◌&&◌, ◌||◌, nat_le, List, length, if◌then◌else◌, Ok, arith, ltb-false}
use Rattle.osi_message.specs.Tokens as token
use Rattle.osi_session.proofs.tables.what_an_accepted_call_has_passed.{accepted}

if_some : (b : Bool) (m n : ℕ) → 0 < n → n ≤ (if b then m else 0) → (b ≡ true) × (n ≤ m)
if_some b m n h k = grind arith

within : (limit n : ℕ) → 0 < n → n ≤ most_within limit → ((limit == 0) || nat_le (4 + n) limit ≡ true) × (nat_le n most_data ≡ true)
unfolding most_within
within limit n h k = grind (arith, or_left, le-leb, ltb-true, or_right, ltb-false)

pub goes : (s : State) (o : List ℕ) → 0 < length o → length o ≤ most_whole s →
    (allowed s (Data o) ≡ Ok (record { next = s; sent = DT o })) × (is_whole (limit_of s) o ≡ true)
unfolding most_whole
goes s o h k =
    let may = if_some (is_ready s.phase && has_right s token.data_token) (most_within (limit_of s)) (length o) h k in
    let fits = within (limit_of s) (length o) h may.1 in grind (arith, accepted, lt-ltb)
