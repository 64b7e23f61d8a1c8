-- Rows after a change at one reference.
use Rattle.std.proofs.Common.{◌≡◌, ◌≢◌, ℕ, ◌+◌, ◌≤◌, ◌==◌, Bool, [], ◌∷◌, ◌++◌, length, None, refl, arith}
use Rattle.osi_carrier.proofs.Vocabulary.{eqb-true, RiseFrom, AreUpTo, Rows, value_at, put, without}

-- ---- one row after the other

-- what is true of no rows, and of rows with one more in front, whose reference may be this one
pub along_rows : {X : Type 0} (r : ℕ) (P : Rows X → Type 0) → P [] →
    ((p : ℕ) (y : X) (rows : Rows X) (b : Bool) → (p == r) ≡ b → P rows → P ((p, y) ∷ rows)) → (rows : Rows X) → P rows
along_rows r P none more [] = none
along_rows r P none more ((p, y) ∷ rows) = more p y rows (p == r) refl (along_rows r P none more rows)

-- ---- the value at another reference

pub put_other : {X : Type 0} (q r : ℕ) (x : X) (rows : Rows X) → q ≢ r → value_at q (put r x rows) ≡ value_at q rows
put_other q r x rows other =
    along_rows r (λ l. value_at q (put r x l) ≡ value_at q l) refl (λ p y l b e more. grind (arith, eqb-true)) rows

pub without_other : {X : Type 0} (q r : ℕ) (rows : Rows X) → q ≢ r → value_at q (without r rows) ≡ value_at q rows
without_other q r rows other =
    along_rows r (λ l. value_at q (without r l) ≡ value_at q l) refl (λ p y l b e more. grind (arith, eqb-true)) rows

pub push_other : {X : Type 0} (q n : ℕ) (x : X) (rows : Rows X) → q ≢ n → value_at q (rows ++ (n, x) ∷ []) ≡ value_at q rows
push_other q n x rows other =
    along_rows q (λ l. value_at q (l ++ (n, x) ∷ []) ≡ value_at q l) (grind (arith, eqb-true)) (λ p y l b e more. grind arith) rows

-- ---- references without a value

pub put_none : {X : Type 0} (q r : ℕ) (x : X) (rows : Rows X) → value_at q rows ≡ None → value_at q (put r x rows) ≡ None
put_none q r x rows h =
    along_rows r (λ l. value_at q l ≡ None → value_at q (put r x l) ≡ None) (λ h. h) (λ p y l b e more h. grind arith) rows h

pub without_none : {X : Type 0} (q r : ℕ) (rows : Rows X) → value_at q rows ≡ None → value_at q (without r rows) ≡ None
without_none q r rows h =
    along_rows r (λ l. value_at q l ≡ None → value_at q (without r l) ≡ None) (λ h. h) (λ p y l b e more h. grind arith) rows h

-- ---- references

pub rise_lower : {X : Type 0} (m n : ℕ) (rows : Rows X) → m ≤ n → RiseFrom n rows → RiseFrom m rows
rise_lower m n [] le h = tt
rise_lower m n ((r, x) ∷ rows) le h = (let above = h.0 in omega arith, h.1)

pub put_rise : {X : Type 0} (n r : ℕ) (x : X) (rows : Rows X) → RiseFrom n rows → RiseFrom n (put r x rows)
put_rise n r x rows h =
    along_rows r (λ l. (n : ℕ) → RiseFrom n l → RiseFrom n (put r x l)) (λ n h. h)
    (λ p y l b e more n h. let behind = more p h.1 in grind arith) rows n h

pub without_rise : {X : Type 0} (n r : ℕ) (rows : Rows X) → RiseFrom n rows → RiseFrom n (without r rows)
without_rise n r rows h =
    along_rows r (λ l. (n : ℕ) → RiseFrom n l → RiseFrom n (without r l)) (λ n h. h)
    (λ p y l b e more n h. let behind = more p h.1 in grind (arith, rise_lower)) rows n h

pub push_rise : {X : Type 0} (n given : ℕ) (x : X) (rows : Rows X) → n ≤ given → RiseFrom n rows → AreUpTo given rows →
    RiseFrom n (rows ++ (given + 1, x) ∷ [])
push_rise n given x [] le h up = (omega arith, tt)
push_rise n given x ((p, y) ∷ rows) le h up = (h.0, push_rise p given x rows up.0 h.1 up.1)

pub put_up : {X : Type 0} (n r : ℕ) (x : X) (rows : Rows X) → AreUpTo n rows → AreUpTo n (put r x rows)
put_up n r x rows h =
    along_rows r (λ l. AreUpTo n l → AreUpTo n (put r x l)) (λ h. h) (λ p y l b e more h. grind arith) rows h

pub without_up : {X : Type 0} (n r : ℕ) (rows : Rows X) → AreUpTo n rows → AreUpTo n (without r rows)
without_up n r rows h =
    along_rows r (λ l. AreUpTo n l → AreUpTo n (without r l)) (λ h. h) (λ p y l b e more h. grind arith) rows h

pub push_up : {X : Type 0} (n : ℕ) (x : X) (rows : Rows X) → AreUpTo n rows → AreUpTo (n + 1) (rows ++ (n + 1, x) ∷ [])
push_up n x [] h = (omega arith, tt)
push_up n x ((p, y) ∷ rows) h = (let up = h.0 in omega arith, push_up n x rows h.1)

-- ---- how many

pub put_length : {X : Type 0} (r : ℕ) (x : X) (rows : Rows X) → length (put r x rows) ≡ length rows
put_length r x rows = along_rows r (λ l. length (put r x l) ≡ length l) refl (λ p y l b e more. grind arith) rows

pub without_length : {X : Type 0} (r : ℕ) (rows : Rows X) → length (without r rows) ≤ length rows
without_length r rows =
    along_rows r (λ l. length (without r l) ≤ length l) (omega arith) (λ p y l b e more. grind (arith, length)) rows
