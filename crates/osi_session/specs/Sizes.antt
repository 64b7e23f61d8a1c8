-- TSDU maximum sizes, in octets, 0 for no limit: what a CN and an AC agree, and what it limits.
use Rattle.std.specs.Prelude.{ℕ, Bool, true, false, ◌||◌, if◌then◌else◌, ◌==◌, nat_le, length}
use Rattle.osi_spdu.specs.declared.fields.TsduMaximumSize.{TsduMaximumSize}
use Rattle.osi_message.specs.Meanings.{Meaning}
use Rattle.osi_message.specs.Written.{written}
use Rattle.osi_session.specs.declared.state.State.{State}
use Rattle.osi_session.specs.Calls.{Call, Accept, Refuse, Data}
use Rattle.osi_session.specs.Numbers.{lower}
use Rattle.osi_session.specs.Phases.{is_settled}

-- the smaller of two sizes; 0 is no limit
abbrev pub smaller : ℕ → ℕ → ℕ
smaller a b = if a == 0 then b else if b == 0 then a else lower a b

-- what an AC names, for the CN's size and the answerer's: 0 if the CN has 0
abbrev pub answered : ℕ → ℕ → ℕ
answered a b = if a == 0 then 0 else smaller a b

-- in either direction
unfoldable pub smaller_sizes : TsduMaximumSize → TsduMaximumSize → TsduMaximumSize
smaller_sizes a b = record { from_asker = smaller a.from_asker b.from_asker; from_answerer = smaller a.from_answerer b.from_answerer }

unfoldable pub answered_sizes : TsduMaximumSize → TsduMaximumSize → TsduMaximumSize
answered_sizes a b = record { from_asker = answered a.from_asker b.from_asker; from_answerer = answered a.from_answerer b.from_answerer }

-- the most octets of this side's TSDUs, once the CN is answered; 0 for no limit
abbrev pub limit_of : State → ℕ
limit_of s = if is_settled s.phase then (if s.is_caller then s.sizes.from_asker else s.sizes.from_answerer) else 0

abbrev pub is_data : Call → Bool
is_data (Data octets) = true
is_data _ = false

-- data may be longer, and so may an answer to the CN
abbrev pub is_bounded : Call → Bool
is_bounded (Accept requirements serial sides sizes octets) = false
is_bounded (Refuse refusal) = false
is_bounded (Data octets) = false
is_bounded _ = true

-- whether the TSDU of a call is within the limit
abbrev pub fits_limit : State → Call → Meaning → Bool
fits_limit s (Accept requirements serial sides sizes octets) m = true
fits_limit s (Refuse refusal) m = true
fits_limit s (Data octets) m = true
fits_limit s _ m = (limit_of s == 0) || nat_le (length (written m)) (limit_of s)
