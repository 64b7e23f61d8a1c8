-- The units in flight from the other end, and the effect of feeding some of their octets to an end.
use Rattle.std.specs.Prelude.{◌≡◌, ℕ, false, List, [], ◌∷◌, ◌++◌, drop, None, ◌⊎◌}
use Rattle.osi_tpdu.specs.Value.{Value}
use Rattle.osi_carrier.specs.Coming.{AreComing}
use Rattle.osi_carrier.specs.React.{react}
use Rattle.osi_carrier.specs.declared.ends.EndReason.TheVariants.{NoMemory}
use Rattle.osi_stack.specs.Feeding.{stops}
use Rattle.osi_stack.specs.Hearing.{attends, ends, with_carrier, RunsOut}
use Rattle.osi_stack.specs.State.{End, Holding}

-- the carrier takes a unit that is alone in its packet
abbrev pub carries_out : Value → End → End
carries_out unit e = with_carrier (react unit e.carrier) e

-- and the sessions handle its events
abbrev pub after_unit : End → Value → End
after_unit e unit = attends (carries_out unit e)

-- units one after the other, only the last of which may have stopped
abbrev pub TakesUnits : End → List Value → End → Type 0
TakesUnits old [] new = new ≡ old
TakesUnits old (unit ∷ units) new = (stops old ≡ false) × TakesUnits (after_unit old unit) units new

-- the first of these units took effect, and memory ran out for its events
pub record IsUnheard (reached : End) (left : List Value) (new : End) : Type 0 where
  pub unit : Value
  pub rest : List Value
  pub first : left ≡ unit ∷ rest
  pub starved : RunsOut (carries_out unit reached) new

-- Some of the units in flight were taken one after the other, and then memory may have run out, for the next unit or
-- for its events. If the end has not ended, the other units are still in flight.
pub record TakesSome (old : Holding) (outgoing : List ℕ) (coming : List Value) (used : ℕ) (new : Holding) : Type 0 where
  pub done : List Value
  pub left : List Value
  pub parts : coming ≡ done ++ left
  pub reached : End
  pub taken : TakesUnits old.end done reached
  pub how : (new.end ≡ reached) ⊎ ((new.end ≡ ends NoMemory reached) ⊎ IsUnheard reached left new.end)
  pub coming_then : new.end.carrier.ended ≡ None → AreComing new.held.octets (drop used outgoing) left
