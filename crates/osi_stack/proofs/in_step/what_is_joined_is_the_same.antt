-- What sessions have joined of unfinished SSDUs: as much for each live connection, whatever is pending.
use Rattle.std.proofs.Common.{◌≡◌, ℕ, ◌+◌, ◌≤◌, Bool, cond, [], ◌∷◌, length, Option, Some, None, is_some, IsSome, refl, ap, arith}
use Rattle.osi_stack.proofs.Vocabulary.{sum_by-cons, sum_by, RiseFrom, Rows, value_at, without, Connection, without_other, quieted, Line}
use Rattle.osi_stack.proofs.Vocabulary.{joined_in}

-- ---- how many lines are of live connections

abbrev pub live_one : Rows Connection → ℕ × Line → ℕ
live_one live row = cond (is_some (value_at row.0 live)) 1 0

abbrev pub live_in : Rows Connection → Rows Line → ℕ
live_in live lines = sum_by (λ row. live_one live row) lines

without_length : (r : ℕ) (rows : Rows Connection) → IsSome (value_at r rows) → length (without r rows) + 1 ≡ length rows
without_length r [] some = cc
without_length r ((q, x) ∷ rows) some = grind (arith, without_length r rows)

-- lines above a reference do not look at it
live_apart : (r n : ℕ) (live : Rows Connection) (lines : Rows Line) → r ≤ n → RiseFrom n lines →
    live_in (without r live) lines ≡ live_in live lines
live_apart r n live [] low rise = refl
live_apart r n live ((q, line) ∷ lines) low rise =
    let here : live_one (without r live) (q, line) ≡ live_one live (q, line) =
    ap (λ (o : Option Connection). cond (is_some o) 1 0) (without_other q r live (grind arith)) in
    search (arith, sum_by-cons, live_apart r q live lines (omega arith) rise.1)

few_by : (r : ℕ) (line : Line) (live : Rows Connection) (lines : Rows Line) (o : Option Connection) → value_at r live ≡ o →
    RiseFrom r lines →
    ((rows : Rows Connection) → live_in rows lines ≤ length rows) → live_in live ((r, line) ∷ lines) ≤ length live
few_by r line live lines None at rise more = grind (arith, cond, sum_by-cons)
few_by r line live lines (Some connection) at rise more =
    grind (
      arith,
      sum_by-cons (λ row. live_one live row) (r, line) lines,
      live_apart r r live lines,
      without_length r live,
      more (without r live),
    )

-- at most as many as are live
pub live_few : (live : Rows Connection) (n : ℕ) (lines : Rows Line) → RiseFrom n lines → live_in live lines ≤ length live
live_few live n [] rise = omega arith
live_few live n ((r, line) ∷ lines) rise = few_by r line live lines (value_at r live) refl rise.1 (λ rows. live_few rows r lines rise.1)

-- ---- what is joined

-- what is pending does not matter
pub joined_quiet : (live : Rows Connection) (lines : Rows Line) → joined_in live (quieted lines) ≡ joined_in live lines
joined_quiet live [] = refl
joined_quiet live ((r, line) ∷ lines) = search (arith, sum_by-cons, joined_quiet live lines)

-- ---- two ends

pub one_at_most : (b : Bool) → cond b 1 0 ≤ 1
one_at_most b = grind arith
