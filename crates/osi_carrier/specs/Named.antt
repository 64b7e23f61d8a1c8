-- Which connections have transport selectors.
use Rattle.std.specs.Prelude.{◌≡◌, ℕ, ◌≤◌, IsSome}
use Rattle.osi_carrier.specs.References.{references}
use Rattle.osi_carrier.specs.Calls.{tsaps_at}
use Rattle.osi_carrier.specs.Rows.{value_at}
use Rattle.osi_carrier.specs.State.{State}

-- each live connection, and no other
abbrev pub AreNamed : State → Type 0
AreNamed s = references s.tsaps ≡ references s.live

-- the selectors of a connection that was live and still is are unchanged
abbrev pub KeepsTsaps : State → State → Type 0
KeepsTsaps old new = (r : ℕ) → r ≤ old.given → IsSome (value_at r new.live) → tsaps_at r new ≡ tsaps_at r old
