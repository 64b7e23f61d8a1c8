-- How much data a side may send in one TSDU now.
use Rattle.std.specs.Prelude.{ℕ, ◌-◌, ◌&&◌, ◌||◌, if◌then◌else◌, ◌==◌, nat_lt}
use Rattle.osi_message.specs.Tokens as token
use Rattle.osi_session.specs.declared.state.State.{State}
use Rattle.osi_session.specs.Allowed.{has_right, most_data}
use Rattle.osi_session.specs.Phases.{is_ready}
use Rattle.osi_session.specs.Sizes.{limit_of}

-- the most octets of data in a TSDU of at most this many octets, 0 for no limit; its first four are a head
unfoldable pub most_within : (limit : ℕ) → ℕ
most_within limit = if limit == 0 || nat_lt 1048576 limit then most_data else limit - 4

-- the most octets of data that a side sends in one TSDU now; 0 if its phase or the data token allows no data
unfoldable pub most_whole : State → ℕ
most_whole s = if is_ready s.phase && has_right s token.data_token then most_within (limit_of s) else 0
