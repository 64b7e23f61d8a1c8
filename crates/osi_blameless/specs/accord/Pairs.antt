-- Two sessions that are connected: each sends TSDUs, and takes those of the other in the order in which they were sent.
use Rattle.std.specs.Prelude.{ℕ, ◌+◌, List, []}
use Rattle.osi_session.specs.Standing.{Seen, Count, after_count}
use Rattle.osi_side.specs.declared.directions.Direction.{Direction}
use Rattle.osi_side.specs.declared.directions.Direction.TheVariants.{Left, Right}
use Rattle.osi_side.specs.Captures.{other}

-- A side: its session, how many TSDUs of the other side it has taken, and the TSDUs that it has sent and the other side has not
-- taken, the oldest first.
pub record Party : Type 0 where
  pub session : Seen
  pub taken : ℕ
  pub channel : List (List ℕ)

pub record Pair : Type 0 where
  pub left : Party
  pub right : Party

abbrev pub side : Direction → Pair → Party
side Left p = p.left
side Right p = p.right

abbrev pub session_of : Direction → Pair → Seen
session_of d p = (side d p).session

abbrev pub taken_of : Direction → Pair → ℕ
taken_of d p = (side d p).taken

abbrev pub channel_of : Direction → Pair → List (List ℕ)
channel_of d p = (side d p).channel

-- ---- how it begins, and how it goes on

abbrev pub party_of : Seen → Party
party_of s = record { session = s; taken = 0; channel = [] }

-- two sessions in these states, and nothing in flight
abbrev pub pair_of : (left right : Seen) → Pair
pair_of left right = record { left = party_of left; right = party_of right }

-- the session of a side is in this state
abbrev pub with_session : Direction → Seen → Pair → Pair
with_session Left s p = record p { left = record p.left { session = s } }
with_session Right s p = record p { right = record p.right { session = s } }

-- these TSDUs of a side are in flight
abbrev pub with_channel : Direction → List (List ℕ) → Pair → Pair
with_channel Left tsdus p = record p { left = record p.left { channel = tsdus } }
with_channel Right tsdus p = record p { right = record p.right { channel = tsdus } }

abbrev pub with_one_more : Direction → Pair → Pair
with_one_more Left p = record p { left = record p.left { taken = p.left.taken + 1 } }
with_one_more Right p = record p { right = record p.right { taken = p.right.taken + 1 } }

-- a side has taken the oldest TSDU in flight to it, with this effect, and these are still in flight to it
abbrev pub has_taken : Direction → Count → (rest : List (List ℕ)) → Pair → Pair
has_taken d c rest p = with_channel (other d) rest (with_one_more d (with_session d (after_count (session_of d p) c) p))
