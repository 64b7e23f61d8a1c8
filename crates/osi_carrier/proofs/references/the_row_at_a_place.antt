-- The row at the place of a reference, and the effect of a write there; no place, no value.
use Rattle.osi_carrier.proofs.Vocabulary.{common_steps, position_or_len, remove, eqb-true, Connection, asked, Rows, value_at, place_of, put}
use Rattle.osi_carrier.proofs.Vocabulary.{without, ◌≡◌, ℕ, zero, suc, ◌<◌, ◌≤◌, ◌==◌, true, false, [], ◌∷◌, length, get_or, set, Option}
use Rattle.osi_carrier.proofs.Vocabulary.{Some, None, is_some, Result, OnOk, refl, sym, ap, arith, position-Some}
use Rattle.osi_carrier.proofs.references.rows_after_a_change.{along_rows}

-- if the place `i` of a reference is, `d` being any row
pub record IsPlace {X : Type 0} (r : ℕ) (rows : Rows X) (i : ℕ) (d : ℕ × X) : Type 0 where
  pub within : i < length rows
  pub named : (get_or rows i d).0 ≡ r
  pub there : value_at r rows ≡ Some (get_or rows i d).1
  pub put_is : (x : X) → put r x rows ≡ set rows i (r, x)
  pub without_is : without r rows ≡ remove rows i

placed_at : {X : Type 0} (r : ℕ) (rows : Rows X) (i : ℕ) (d : ℕ × X) → i < length rows → ((get_or rows i d).0 == r) ≡ true →
    ((k : ℕ) → k < i → ((get_or rows k d).0 == r) ≡ false) → IsPlace r rows i d
placed_at r [] i d within here before = absurd (omega arith)
placed_at r ((q, y) ∷ rows) zero d within here before =
    let same : q ≡ r = eqb-true q r here in
    record {
      within = within;
      named = same;
      there = rw here refl;
      put_is = λ x. rw here (ap (λ n. (n, x) ∷ rows) same);
      without_is = rw here refl;
    }
placed_at r ((q, y) ∷ rows) (suc i) d within here before =
    let other : (q == r) ≡ false = before 0 (omega arith) in
    let rest = placed_at r rows i d (omega arith) here (λ k h. before (suc k) (omega arith)) in
    record {
      within = within;
      named = rest.named;
      there = rw other rest.there;
      put_is = λ x. rw other (ap (λ l. (q, y) ∷ l) (rest.put_is x));
      without_is = rw other (ap (λ l. (q, y) ∷ l) rest.without_is);
    }

pub placed : {X : Type 0} (r : ℕ) (rows : Rows X) (i : ℕ) (d : ℕ × X) → place_of r rows ≡ Some i → IsPlace r rows i d
placed r rows i d e =
    let p = position-Some (λ row. row.0 == r) rows i d e in
    placed_at r rows i d p.0 p.1 p.2

-- the row at the place of a reference has its value, if the rows are held under another name
pub here_is : {X : Type 0} (r : ℕ) (rows items : Rows X) (i : ℕ) (row : ℕ × X) → place_of r rows ≡ Some i → row ≡ get_or items i row →
    items ≡ rows → value_at r rows ≡ Some row.1
here_is r rows items i row e here same = grind (arith, placed)

-- a write at that place
pub put_row : {X : Type 0} (r : ℕ) (rows items : Rows X) (i : ℕ) (row new : ℕ × X) (x : X) → place_of r rows ≡ Some i →
    row ≡ get_or items i row → items ≡ rows → new ≡ (row.0, x) → set items i new ≡ put r x rows
put_row r rows items i row new x e here same h = grind (arith, set, placed r rows i row e)

pub stepped_rows : {X A E : Type 0} (result : Result A E) (r : ℕ) (rows items : Rows X) (i : ℕ) (row new : ℕ × X) (x : X) →
    place_of r rows ≡ Some i →
    row ≡ get_or items i row → items ≡ rows → OnOk result (new ≡ (row.0, x)) → OnOk result (set items i new ≡ put r x rows)
stepped_rows result r rows items i row new x e here same h = grind (arith, put_row)

-- a value that a reference has is put there with no change
pub put_same : {X : Type 0} (r : ℕ) (x : X) (rows : Rows X) → value_at r rows ≡ Some x → put r x rows ≡ rows
put_same r x rows h =
    along_rows r (λ l. value_at r l ≡ Some x → put r x l ≡ l) (λ h. refl) (λ q y l b e more h. grind arith) rows h

-- no place, no connection
nowhere_at : {X : Type 0} (r : ℕ) (rows : Rows X) → length rows ≤ position_or_len (λ row. row.0 == r) rows → value_at r rows ≡ None
nowhere_at r rows h =
    along_rows r (λ l. length l ≤ position_or_len (λ row. row.0 == r) l → value_at r l ≡ None) (λ h. refl)
    (λ q y l b e more h. grind arith) rows h

pub nowhere : {X : Type 0} (r : ℕ) (rows : Rows X) → place_of r rows ≡ None → value_at r rows ≡ None
nowhere r rows e = nowhere_at r rows (grind (arith, common_steps))

live_by : (r : ℕ) (rows : Rows Connection) (o : Option ℕ) → place_of r rows ≡ o → is_some o ≡ is_some (value_at r rows)
live_by r rows None e = sym (ap is_some (nowhere r rows e))
live_by r rows (Some i) e = sym (ap is_some (placed r rows i (0, asked) e).there)

-- a reference that has a place has a connection
pub live_is : (r : ℕ) (rows : Rows Connection) → is_some (place_of r rows) ≡ is_some (value_at r rows)
live_is r rows = live_by r rows (place_of r rows) refl
