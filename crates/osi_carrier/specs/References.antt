-- The references that are live at an end.
use Rattle.std.specs.Prelude.{ℕ, ◌==◌, List, [], ◌∷◌, map, if◌then◌else◌}
use Rattle.osi_carrier.specs.Rows.{Rows}

abbrev pub references : {X : Type 0} → Rows X → List ℕ
references rows = map (λ row. row.0) rows

abbrev pub dropped : ℕ → List ℕ → List ℕ
dropped r [] = []
dropped r (q ∷ refs) = if q == r then refs else q ∷ dropped r refs
