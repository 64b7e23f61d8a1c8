-- The rows of a reference that has no row.
use Rattle.osi_carrier.proofs.Vocabulary.{◌≡◌, ℕ, None, refl, Rows, value_at, place_of, without, arith}
use Rattle.osi_carrier.proofs.references.rows_after_a_change.{along_rows}
use Rattle.osi_carrier.proofs.references.the_row_at_a_place.{nowhere}

absent : {X : Type 0} (r : ℕ) (rows : Rows X) → value_at r rows ≡ None → without r rows ≡ rows
absent r rows h =
    along_rows r (λ l. value_at r l ≡ None → without r l ≡ l) (λ h. refl) (λ q y l b e more h. grind arith) rows h

-- nothing is dropped
pub nothing_dropped : {X : Type 0} (r : ℕ) (rows : Rows X) → place_of r rows ≡ None → without r rows ≡ rows
nothing_dropped r rows e = absent r rows (nowhere r rows e)
