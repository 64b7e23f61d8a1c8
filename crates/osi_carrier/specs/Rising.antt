-- Rows in rising order of a key.
use Rattle.std.specs.Prelude.{ℕ, ◌<◌, ◌==◌, List, [], ◌∷◌, Option, position}

-- each key is above those before it, and above this number
abbrev pub RiseBy : {X : Type 0} → (X → ℕ) → ℕ → List X → Type 0
RiseBy key n [] = Unit {0}
RiseBy key n (row ∷ rows) = (n < key row) × RiseBy key (key row) rows

-- the place of a key, from 0
abbrev pub place_by : {X : Type 0} → (X → ℕ) → ℕ → List X → Option ℕ
place_by key r rows = position (λ row. key row == r) rows
