-- A TSDU that is lent from the piece in which it lies: what its event would be, and what is left undone without that event.
use Rattle.std.specs.Prelude.{◌≡◌, ℕ, Bool, true, false, List, Option, Some, None}
use Rattle.osi_carrier.specs.Happenings.{Happening, tsdu}
use Rattle.osi_carrier.specs.Packets.{Carrying}
use Rattle.osi_carrier.specs.State.{State, tells}
use Rattle.osi_carrier.specs.declared.lending.Lent.{Lent}
use Rattle.osi_carrier.specs.declared.lending.Reached.{Reached}
use Rattle.osi_carrier.specs.declared.lending.Reached.TheVariants.{NotOpen, Settled, Whole}

abbrev pub lent_event : Lent → Happening
lent_event lent = tsdu lent.reference.0 lent.octets.now

-- what is lent, if anything is
abbrev pub lent_if : Bool → Lent → Option Lent
lent_if false lent = None
lent_if true lent = Some lent

-- the carrier with the event of what is lent, if something is
abbrev pub with_lent : Option Lent → State → State
with_lent None s = s
with_lent (Some lent) s = tells (lent_event lent) s

abbrev pub carrying_lent : Option Lent → Carrying → Carrying
carrying_lent lent c = record c { state = with_lent lent c.state }

-- whether a connection was open
abbrev pub is_reached : Reached → Bool
is_reached NotOpen = false
is_reached Settled = true
is_reached Whole = true

-- the carrier with the event of the TSDU that its unit is, if it is to be lent
abbrev pub with_reached : Reached → ℕ → List ℕ → State → State
with_reached NotOpen r octets s = s
with_reached Settled r octets s = s
with_reached Whole r octets s = tells (tsdu r octets) s

-- Something is lent only if the caller wants it; then no event was queued for it, and the carrier has not ended.
pub record Lends (wanted : Bool) (old new : State) : Type 0 where
  pub asked : wanted ≡ true
  pub events : new.events ≡ old.events
  pub ended : new.ended ≡ old.ended

abbrev pub LendsIf : Reached → Bool → State → State → Type 0
LendsIf NotOpen wanted old new = Unit {0}
LendsIf Settled wanted old new = Unit {0}
LendsIf Whole wanted old new = Lends wanted old new
