-- How many lines have pending indications.
use Rattle.osi_stack.proofs.Vocabulary.{position, position_or_len, lt-ltb, eqb-true, common_steps, length-set, sum_by-cons, sum_by-set}
use Rattle.osi_stack.proofs.Vocabulary.{count_by-le-length, position_or_len_is, placed, RiseFrom, Rows, place_of, Input, Shown, Lost, loses}
use Rattle.osi_stack.proofs.Vocabulary.{line_by, Line, line_waits, waits, how_many_wait, ◌≡◌, ℕ, ◌+◌, ◌<◌, ◌==◌, ◌||◌, Bool, zero, suc}
use Rattle.osi_stack.proofs.Vocabulary.{true, false, not, cond, List, [], ◌∷◌, ◌++◌, length, get_or, set, nat_lt, Some, None, Result, OnOk}
use Rattle.osi_stack.proofs.Vocabulary.{OnErr, refl, sym, ap, ◌∙◌, arith, set_rise}
use Rattle.osi_stack.proofs.each_line.the_first_that_indicates.{IsNone, quiet_none}

-- ---- one has, or none

waits_by : (b more : Bool) (n : ℕ) → more ≡ nat_lt 0 n → (b || more) ≡ nat_lt 0 (cond b 1 0 + n)
waits_by b more n e = grind (arith, lt-ltb)

pub waits_counted : (rows : Rows Line) → waits rows ≡ nat_lt 0 (how_many_wait rows)
waits_counted [] = refl
waits_counted (row ∷ rows) = search (arith, waits_by, sum_by-cons, cond, waits_counted rows)

pub none_counted : (n : ℕ) (rows : Rows Line) → n ≡ how_many_wait rows → n ≡ 0 → IsNone rows
none_counted n rows e z = quiet_none rows (waits_counted rows ∙ ap (nat_lt 0) (sym e ∙ z))

-- ---- the only line with pending indications

counted_by : (b : Bool) (n : ℕ) → b ≡ true → 0 < cond b 1 0 + n
counted_by b n e = grind arith

-- a line with pending indications is counted
counted_at : (rows : Rows Line) (i : ℕ) (d : ℕ × Line) → i < length rows → line_waits (get_or rows i d).1 ≡ true → 0 < how_many_wait rows
counted_at [] i d within here = absurd (omega arith)
counted_at (row ∷ rows) zero d within here = search (arith, sum_by-cons, cond, counted_by)
counted_at (row ∷ rows) (suc i) d within here = search (arith, cond, sum_by-cons, counted_at rows i d (omega arith) here)

quiet_before : (rows : Rows Line) (i k : ℕ) (d : ℕ × Line) → how_many_wait rows ≡ 1 → i < length rows →
    line_waits (get_or rows i d).1 ≡ true → k < i →
    line_waits (get_or rows k d).1 ≡ false
quiet_before [] i k d one within here less = absurd (omega arith)
quiet_before (row ∷ rows) zero k d one within here less = absurd (omega arith)
quiet_before (row ∷ rows) (suc i) zero d one within here less =
    grind (arith, sum_by-cons (λ x. cond (line_waits x.1) 1 0) row rows, counted_at rows i d)
quiet_before (row ∷ rows) (suc i) (suc k) d one within here less =
    grind (arith, sum_by-cons (λ x. cond (line_waits x.1) 1 0) row rows, counted_at rows i d, quiet_before rows i k d)

-- the only line with pending indications is the first
pub only_first : (rows : Rows Line) (i : ℕ) (d : ℕ × Line) → how_many_wait rows ≡ 1 → i < length rows →
    line_waits (get_or rows i d).1 ≡ true →
    position (λ row. line_waits row.1) rows ≡ Some i
only_first rows i d one within here =
    let at : position_or_len (λ row. line_waits row.1) rows ≡ i =
    position_or_len_is (λ row. line_waits row.1) rows i d (omega arith)
    (λ k less. quiet_before rows i k d one within here less)
    (λ inside. here) in
    grind (arith, common_steps)

pub only_heard : (waiting heard : ℕ) (rows : Rows Line) (d : ℕ × Line) → waiting ≡ how_many_wait rows → waiting ≡ 1 →
    heard < length rows → d ≡ get_or rows heard d → line_waits d.1 ≡ true → position (λ row. line_waits row.1) rows ≡ Some heard
only_heard waiting heard rows d counts one within here waits = grind (arith, only_first)

-- ---- a line for which nothing is pending

any_waiting : ℕ × Line
any_waiting = (0, record { session = None; waiting = Lost ∷ []; selectors = None })

room_at : (rows : Rows Line) (i : ℕ) (row : ℕ × Line) → i < length rows → row ≡ get_or rows i row → line_waits row.1 ≡ false →
    how_many_wait rows < length rows
unfolding any_waiting
room_at rows i row within here h =
    let more : how_many_wait (set rows i any_waiting) + cond {A = ℕ} (line_waits (get_or rows i row).1) 1 0 ≡ how_many_wait rows + 1 =
    sum_by-set (λ x. cond (line_waits x.1) 1 0) rows i any_waiting row within in
    grind (arith, set, any_waiting, count_by-le-length, length-set)

-- if nothing is pending for the line of a reference, it is not counted
pub room_of : (r : ℕ) (rows items : Rows Line) (i : ℕ) (row : ℕ × Line) (waiting lines : ℕ) → place_of r rows ≡ Some i →
    row ≡ get_or rows i row → items ≡ rows →
    waiting ≡ how_many_wait items → lines ≡ length items → line_waits row.1 ≡ false → waiting < lines
room_of r rows items i row waiting lines e here same counts len h = grind (arith, how_many_wait, length, room_at, placed)

-- ---- another value of one line

-- what the fields of an end's lines say of them
abbrev pub AreKept : ℕ → Bool → Rows Line → Type 0
AreKept waiting rises rows = (waiting ≡ how_many_wait rows) × (rises ≡ true → RiseFrom 0 rows)

pub set_kept : (waiting counted : ℕ) (rises before after : Bool) (rows : Rows Line) (i : ℕ) (row new : ℕ × Line) →
    AreKept waiting rises rows → row ≡ get_or rows i row → i < length rows →
    new.0 ≡ row.0 → before ≡ line_waits row.1 → after ≡ line_waits new.1 → counted + cond before 1 0 ≡ waiting + cond after 1 0 →
    AreKept counted rises (set rows i new)
set_kept waiting counted rises before after rows i row new kept here within named was is sum =
    grind (arith, cond, line_waits, get_or, how_many_wait, set, sum_by-set, set_rise)

-- ---- a line whose session receives something

more_wait : (w more : List Shown) → not (length w == 0) ≡ true → not (length (w ++ more) == 0) ≡ true
more_wait [] more h = absurd (cc)
more_wait (x ∷ w) more h = grind (arith, eqb-true)

-- what was pending there stays pending
pub heard_stays : {A E : Type 0} (result : Result A E) (row new : ℕ × Line) (input : Input) →
    OnOk result (new ≡ (row.0, line_by row.1 row.1.session input)) →
    OnErr result (new ≡ (row.0, loses row.1)) → line_waits row.1 ≡ true → line_waits new.1 ≡ true
heard_stays result row new input ok lost h = grind (arith, more_wait)

-- a line that has no pending indication afterwards had none before
pub still_quiet : (before after : Bool) → (before ≡ true → after ≡ true) → after ≡ false → before ≡ false
still_quiet before after stays none = grind arith

pub still_counted : (n : ℕ) (before after : Bool) → before ≡ after → n + cond before 1 0 ≡ n + cond after 1 0
still_counted n before after same = ap (λ (b : Bool). n + cond b 1 0) same
