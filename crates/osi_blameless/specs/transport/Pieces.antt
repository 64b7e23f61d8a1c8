-- What a whole end does with a piece of its stream, however the stream is cut.
use Rattle.std.specs.Prelude.{◌≡◌, ℕ, List, ◌++◌, take, None}
use Rattle.osi_tpkt.specs.Stream.{ArePackets}
use Rattle.osi_tpdu.specs.Value.{Value}
use Rattle.osi_carrier.specs.Packets.{Carrying}
use Rattle.osi_rules.specs.declared.directions.Direction.{Direction}
use Rattle.osi_blameless.specs.Packets.{units_in}
use Rattle.osi_blameless.specs.transport.Wholes.{Becomes, Whole}

-- The octets that the carrier held and some of the piece are these packets and a rest. If the units of the packets are the next
-- to come, what the carrier does with the piece is events of its whole end. As long as it has not ended, it used so much of the
-- piece, and holds the rest.
pub record IsFed (d : Direction) (old : Carrying) (piece : List ℕ) (used : ℕ) (new : Carrying) : Type 0 where
  pub packets : List (List ℕ)
  pub within : ℕ
  pub rest : List ℕ
  pub cut : ArePackets packets (old.held.octets ++ take within piece) rest
  pub becomes : (w : Whole) (later : List Value) → w.end ≡ old.state → w.coming ≡ units_in packets ++ later → Becomes d w new.state
  pub keeps : new.state.ended ≡ None → (used ≡ within) × (new.held.octets ≡ rest)
