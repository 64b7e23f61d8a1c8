-- The units of a packet that follow after some of them.
use Rattle.std.specs.Prelude.{ℕ, suc, Bool, true, List, [], ◌∷◌, length, is_ok}
use Rattle.std.specs.Result.{result_unwrap_or}
use Rattle.osi_tpdu.specs.Value.{Value}
use Rattle.osi_tpdu.specs.Packet.{units_at}

-- the octets of the packet from this place on are units, or there are no more octets
unfoldable pub can_be_read : ℕ → List ℕ → Bool
can_be_read at [] = true
can_be_read at (o ∷ octets) = is_ok (units_at (suc (length (o ∷ octets))) at (o ∷ octets))

-- those units
unfoldable pub rest_at : ℕ → List ℕ → List Value
rest_at at [] = []
rest_at at (o ∷ octets) = result_unwrap_or (units_at (suc (length (o ∷ octets))) at (o ∷ octets)) []
