-- The effect of feeding a carrier some of the octets in flight to it.
use Rattle.std.specs.Prelude.{◌≡◌, ℕ, false, List, [], ◌∷◌, ◌++◌, drop, ◌⊎◌}
use Rattle.osi_tpdu.specs.Value.{Value}
use Rattle.osi_carrier.specs.Coming.{AreComing}
use Rattle.osi_carrier.specs.Packets.{Carrying, stops, is_spoilt}
use Rattle.osi_carrier.specs.React.{react}
use Rattle.osi_carrier.specs.State.{State, ends}
use Rattle.osi_carrier.specs.declared.ends.EndReason.TheVariants.{NoMemory}

-- units one after the other, only the last of which may have stopped the carrier
abbrev pub TakesUnits : State → List Value → State → Type 0
TakesUnits old [] new = new ≡ old
TakesUnits old (unit ∷ units) new = (stops old ≡ false) × TakesUnits (react unit old) units new

-- Some of the units in flight were taken one after the other, and then memory may have run out. Unless there was a
-- fault or an allocation failure, the other units are still in flight.
pub record TakesSome (old : Carrying) (outgoing : List ℕ) (coming : List Value) (used : ℕ) (new : Carrying) : Type 0 where
  pub done : List Value
  pub left : List Value
  pub parts : coming ≡ done ++ left
  pub reached : State
  pub taken : TakesUnits old.state done reached
  pub how : (new.state ≡ reached) ⊎ (new.state ≡ ends NoMemory reached)
  pub coming_then : is_spoilt new.state.ended ≡ false → AreComing new.held.octets (drop used outgoing) left
