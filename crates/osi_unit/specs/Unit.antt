-- A value of a grammar at the front of octets.
use Rattle.std.specs.Prelude.{ℕ, ◌≤◌, List, length, take, drop}

-- the value is spelled by the first n of the octets, and the rest may follow it
pub record IsAtFront {V : Type 0} (spells follows : V → List ℕ → Type 0) (v : V) (n : ℕ) (octets : List ℕ) : Type 0 where
  pub within : n ≤ length octets
  pub spelled : spells v (take n octets)
  pub followed : follows v (drop n octets)
