-- A table by reference: rows in the order in which the references were given.
use Rattle.std.specs.Prelude.{ℕ, List, [], ◌∷◌, ◌==◌, Option, Some, None, position, if◌then◌else◌}

abbrev pub Rows : Type 0 → Type 0
Rows X = List (ℕ × X)

-- the value at a reference
abbrev pub value_at : {X : Type 0} → ℕ → Rows X → Option X
value_at r [] = None
value_at r ((q, x) ∷ rows) = if q == r then Some x else value_at r rows

-- the place of a reference, from 0
abbrev pub place_of : {X : Type 0} → ℕ → Rows X → Option ℕ
place_of r rows = position (λ row. row.0 == r) rows

-- a reference gets another value
abbrev pub put : {X : Type 0} → ℕ → X → Rows X → Rows X
put r x [] = []
put r x ((q, y) ∷ rows) = if q == r then (q, x) ∷ rows else (q, y) ∷ put r x rows

-- a reference and its value dropped
abbrev pub without : {X : Type 0} → ℕ → Rows X → Rows X
without r [] = []
without r ((q, y) ∷ rows) = if q == r then rows else (q, y) ∷ without r rows

-- the first reference
abbrev pub first_of : {X : Type 0} → Rows X → Option ℕ
first_of [] = None
first_of ((q, x) ∷ rows) = Some q
