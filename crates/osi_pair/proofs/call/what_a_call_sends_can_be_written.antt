-- What a call and an offer send can be written.
-- For calls and the laws of `standing`.
use Rattle.osi_session.specs.Calls.{Refusal}
use Rattle.osi_pair.proofs.Vocabulary.{◌≡◌, ℕ, ◌<◌, ◌&&◌, Bool, true, arith, and_le_r, TsduMaximumSize, refusal_reason, eqb-true, are_sizes}
use Rattle.osi_pair.proofs.Vocabulary.{IsOctets, IsInOctets, IsSendable, octets_of, Passed, Call, is_profile, SessionStep as Step}
use Rattle.osi_pair.proofs.Vocabulary.{SessionState as State}

both_right : (a b : Bool) → (a && b) ≡ true → b ≡ true
both_right a b h = grind arith

-- the requirements that can be selected go into two octets
pub profile_small : (n : ℕ) → is_profile n ≡ true → n < 65536
unfolding is_profile
profile_small n h = grind (arith, eqb-true, and_le_r)

pub asker_small : (s : TsduMaximumSize) → are_sizes s ≡ true → s.from_asker < 65536
asker_small s h = grind arith

reason_small : (r : Refusal) → refusal_reason r < 256
reason_small r = grind arith

-- what an accepted call sends
pub call_in_octets : (s : State) (c : Call) (x : Step) → Passed s c x → IsSendable x.sent → IsOctets (octets_of c) → IsInOctets x.sent
call_in_octets s c x passed sendable h = search (arith, profile_small, both_right, is_profile, asker_small, reason_small)
