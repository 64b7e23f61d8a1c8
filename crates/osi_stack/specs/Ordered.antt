-- The order of an end's lines, and which indication is given first.
use Rattle.std.specs.Prelude.{◌≡◌, ◌≢◌, ◌<◌, ℕ, true, [], ◌∷◌, Option, Some, None, IsSome}
use Rattle.osi_carrier.specs.Orderly.{RiseFrom}
use Rattle.osi_carrier.specs.Rows.{Rows, value_at}
use Rattle.osi_carrier.specs.State.{asked}
use Rattle.osi_session.specs.Shown.{Shown}
use Rattle.osi_stack.specs.Messages.{kept_at, waiting_at}
use Rattle.osi_stack.specs.State.{Line, End}

-- Lines are in the order in which their references were given; and each connection that awaits a CC, as only those of a
-- caller do, has a line.
pub record IsOrdered (e : End) : Type 0 where
  pub rise : RiseFrom 0 e.lines
  pub awaiting : (r : ℕ) → value_at r e.carrier.live ≡ Some asked → (e.carrier.is_caller ≡ true) × IsSome (value_at r e.lines)

-- The oldest indication of this reference was given, and this is the lowest reference for which one was pending.
pub record IsLowest (r : ℕ) (shown : Shown) (old new : Rows Line) : Type 0 where
  pub oldest : waiting_at r old ≡ shown ∷ waiting_at r new
  pub lowest : (q : ℕ) → q < r → waiting_at q old ≡ []
  pub session : kept_at r new ≡ kept_at r old
  pub others : (q : ℕ) → q ≢ r → value_at q new ≡ value_at q old

-- nothing was given, since nothing was pending; or the oldest indication of the lowest reference
abbrev pub TellsLowest : Option (ℕ × Shown) → Rows Line → Rows Line → Type 0
TellsLowest None old new = ((r : ℕ) → waiting_at r old ≡ []) × (new ≡ old)
TellsLowest (Some first) old new = IsLowest first.0 first.1 old new
