-- How much is kept of a connection of which no more than a bound may be kept.
use Rattle.std.specs.Prelude.{ℕ, ◌≤◌}
use Rattle.osi_judge.specs.Connections.{Joined, kept_on}

-- of both sides no more than the bound
abbrev pub IsWithin : (most : ℕ) → Joined → Type 0
IsWithin most j = kept_on j ≤ most
