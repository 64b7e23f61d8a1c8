-- What a change at one reference leaves there.
use Rattle.osi_carrier.proofs.Vocabulary.{eqb-true, eq-eqb, RiseFrom, AreUpTo, Rows, value_at, put, without, ◌≡◌, ℕ, ◌<◌, ◌≤◌, Bool, ◌==◌}
use Rattle.osi_carrier.proofs.Vocabulary.{true, [], ◌∷◌, ◌++◌, Option, Some, None, refl, ap, arith, if◌then◌else◌}
use Rattle.osi_carrier.proofs.references.rows_after_a_change.{along_rows}

-- what is found after a row, by whether the row has the reference
pub found : {X : Type 0} (m q : ℕ) (y : X) (rows : Rows X) (b : Bool) → (q == m) ≡ b →
    value_at m ((q, y) ∷ rows) ≡ (if b then Some y else value_at m rows)
found {X} m q y rows b e = ap (λ (c : Bool). if◌then◌else◌ {A = Option X} c (Some y) (value_at m rows)) e

-- ---- put

pub put_here : {X : Type 0} (r : ℕ) (x z : X) (rows : Rows X) → value_at r rows ≡ Some z → value_at r (put r x rows) ≡ Some x
put_here r x z rows h =
    along_rows r (λ l. value_at r l ≡ Some z → value_at r (put r x l) ≡ Some x) (λ h. cc) (λ q y l b e more h. grind (arith, found)) rows h

-- ---- without

-- a reference that is not above the first has no row
pub absent : {X : Type 0} (m n : ℕ) (rows : Rows X) → m ≤ n → RiseFrom n rows → value_at m rows ≡ None
absent m n rows le h =
    along_rows m (λ l. (n : ℕ) → m ≤ n → RiseFrom n l → value_at m l ≡ None) (λ n le h. refl)
    (λ q y l b e more n le h. let above = h.0 in let behind = more q (omega arith) h.1 in grind (arith, eqb-true, found)) rows n le h

without_above : {X : Type 0} (n r : ℕ) (rows : Rows X) → RiseFrom n rows → value_at r (without r rows) ≡ None
without_above n r [] h = refl
without_above n r ((q, y) ∷ rows) h = grind (arith, absent, without_above q r rows h.1)

pub without_here : {X : Type 0} (r : ℕ) (rows : Rows X) → RiseFrom 0 rows → value_at r (without r rows) ≡ None
without_here r rows h = without_above 0 r rows h

-- ---- a new reference

pub push_here : {X : Type 0} (r : ℕ) (x : X) (rows : Rows X) → value_at r rows ≡ None → value_at r (rows ++ (r, x) ∷ []) ≡ Some x
push_here r x rows h =
    along_rows r (λ l. value_at r l ≡ None → value_at r (l ++ (r, x) ∷ []) ≡ Some x) (λ h. found r r x [] true (eq-eqb r r refl))
    (λ q y l b e more h. grind (arith, found)) rows h

-- a reference above all that were given has no row
pub beyond : {X : Type 0} (m n : ℕ) (rows : Rows X) → AreUpTo n rows → n < m → value_at m rows ≡ None
beyond m n rows up above =
    along_rows m (λ l. AreUpTo n l → value_at m l ≡ None) (λ up. refl) (λ q y l b e more up. grind (arith, eqb-true, found)) rows up
