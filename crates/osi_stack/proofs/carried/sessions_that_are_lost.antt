-- Sessions that are lost.
use Rattle.osi_stack.proofs.Vocabulary.{append-nil, placed, here_is, Rows, value_at, place_of, put, Listener, broken, react, shows_loss}
use Rattle.osi_stack.proofs.Vocabulary.{Shown, Lost, loses, all_lost, Line, ◌≡◌, ℕ, ◌+◌, ◌<◌, zero, suc, Bool, List, [], ◌∷◌, ◌++◌, length}
use Rattle.osi_stack.proofs.Vocabulary.{take, drop, get_or, set, arith, Some, None, Result, Ok, Err, OnErr, refl, if◌then◌else◌}

-- what a session indicates when it is lost
lost_shown : (s : Listener) → (react s broken).shown ≡ (if shows_loss s.state.phase then Lost ∷ [] else [])
unfolding react
lost_shown s = refl

pub lost_line : (s : Listener) (l : Line) (b : Bool) (waiting : List Shown) → l.session ≡ Some s → b ≡ shows_loss s.state.phase →
    waiting ≡ l.waiting ++ (if b then Lost ∷ [] else []) → record l { session = None; waiting = waiting } ≡ loses l
lost_line s l b waiting e shows h = grind (arith, lost_shown)

-- ---- all of them

-- a session that is lost already
pub lost_put : (r : ℕ) (l : Line) (rows : Rows Line) → value_at r rows ≡ Some l → all_lost (put r (loses l) rows) ≡ all_lost rows
lost_put r l [] h = refl
lost_put r l ((q, y) ∷ rows) h = grind (arith, all_lost, append-nil, loses, value_at, lost_put r l rows)

pub stopped_rows : {A E : Type 0} (result : Result A E) (r : ℕ) (rows items : Rows Line) (i : ℕ) (row new : ℕ × Line) →
    place_of r rows ≡ Some i →
    row ≡ get_or rows i row → items ≡ rows → OnErr result (new ≡ (row.0, loses row.1)) →
    OnErr result (all_lost (set items i new) ≡ all_lost rows)
stopped_rows (Ok a) r rows items i row new e here same h = tt
stopped_rows (Err f) r rows items i row new e here same h =
    grind (
      arith,
      (placed r rows i row e).put_is (loses row.1),
      (placed r rows i row e).named,
      lost_put r row.1 rows (here_is r rows rows i row e here refl),
    )

-- ---- one after the other

record IsStep (xs : Rows Line) (i : ℕ) (d : ℕ × Line) : Type 0 where
  here : get_or (all_lost (take i xs) ++ drop i xs) i d ≡ get_or xs i d
  next : set (all_lost (take i xs) ++ drop i xs) i ((get_or xs i d).0, loses (get_or xs i d).1) ≡ all_lost (take (suc i) xs) ++
      drop (suc i) xs

step_at : (xs : Rows Line) (i : ℕ) (d : ℕ × Line) → i < length xs → IsStep xs i d
step_at [] i d h = absurd (omega arith)
step_at (x ∷ xs) zero d h = record { here = refl; next = refl }
step_at (x ∷ xs) (suc i) d h = grind (arith, step_at xs i d (omega arith))

-- those before it are lost, and then the next is lost
pub lost_step : (xs items : Rows Line) (i : ℕ) (row new : ℕ × Line) → i < length xs → items ≡ all_lost (take i xs) ++ drop i xs →
    row ≡ get_or items i row → new ≡ (row.0, loses row.1) → set items i new ≡ all_lost (take (i + 1) xs) ++ drop (i + 1) xs
lost_step xs items i row new within before here h = grind (arith, step_at, get_or, set, all_lost, take, drop, loses)
