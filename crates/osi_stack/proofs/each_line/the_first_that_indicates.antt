-- The first connection for which an indication is pending.
use Rattle.osi_stack.proofs.Vocabulary.{position, position_or_len, common_steps, Rows, Shown, shown_by, Indication, first_by, first_shown}
use Rattle.osi_stack.proofs.Vocabulary.{rest_by, without_first, TellsOf, Line, line_waits, waits, ◌≡◌, ℕ, ◌<◌, ◌≤◌, ◌==◌, zero, suc, true}
use Rattle.osi_stack.proofs.Vocabulary.{false, not, List, [], ◌∷◌, length, map, get_or, set, Some, None, refl, ap, ◌∙◌, arith}
use Rattle.osi_stack.proofs.Vocabulary.{position-Some}
use Rattle.osi_stack.proofs.carried.events_one_after_the_other.{no_events}
use Rattle.osi_stack.proofs.carried.packets_without_events.{or_first, or_second}

-- ---- nothing is pending

pub quiet_line : (l : Line) → line_waits l ≡ false → l.waiting ≡ []
quiet_line l e = no_events l.waiting e

pub record IsNone (rows : Rows Line) : Type 0 where
  pub shown : first_shown rows ≡ None
  pub rest : without_first rows ≡ rows

none_at : (rows : Rows Line) → length rows ≤ position_or_len (λ row. line_waits row.1) rows → IsNone rows
none_at [] h = record { shown = refl; rest = refl }
none_at ((r, l) ∷ rows) h = grind (arith, none_at rows)

pub none_waits : (rows : Rows Line) → position (λ row. line_waits row.1) rows ≡ None → IsNone rows
none_waits rows e = none_at rows (grind (arith, common_steps))

pub quiet_none : (rows : Rows Line) → waits rows ≡ false → IsNone rows
quiet_none [] h = record { shown = refl; rest = refl }
quiet_none ((r, l) ∷ rows) h =
    grind (arith, quiet_line l (or_first (line_waits l) (waits rows) h), quiet_none rows (or_second (line_waits l) (waits rows) h))

-- ---- the first pending indication

-- the oldest of the first line with one, which is at this place
pub record IsFirst (rows : Rows Line) (i : ℕ) (d : ℕ × Line) : Type 0 where
  pub within : i < length rows
  pub shown : first_shown rows ≡ first_by (get_or rows i d).0 (get_or rows i d).1.waiting None
  pub waits : line_waits (get_or rows i d).1 ≡ true
  pub rest : (shown : Shown) (more : List Shown) → (get_or rows i d).1.waiting ≡ shown ∷ more →
      without_first rows ≡ set rows i ((get_or rows i d).0, record (get_or rows i d).1 { waiting = more })

first_at : (rows : Rows Line) (i : ℕ) (d : ℕ × Line) → i < length rows → line_waits (get_or rows i d).1 ≡ true →
    ((k : ℕ) → k < i → line_waits (get_or rows k d).1 ≡ false) → IsFirst rows i d
first_at [] i d within here before = absurd (omega arith)
first_at ((r, l) ∷ rows) zero d within here before = record {
  within = within;
  shown = grind arith;
  waits = here;
  rest = λ shown more e. ap (λ w. rest_by r l w rows (without_first rows)) e;
}
first_at ((r, l) ∷ rows) (suc i) d within here before =
    let none = quiet_line l (before 0 (omega arith)) in
    let more = first_at rows i d (omega arith) here (λ k h. before (suc k) (omega arith)) in
    record {
      within = within;
      shown = ap (λ w. first_by r w (first_shown rows)) none ∙ more.shown;
      waits = here;
      rest = λ shown waiting e. ap (λ w. rest_by r l w rows (without_first rows)) none ∙ ap (λ k. (r, l) ∷ k) (more.rest shown waiting e);
    }

pub first_is : (rows : Rows Line) (i : ℕ) (d : ℕ × Line) → position (λ row. line_waits row.1) rows ≡ Some i → IsFirst rows i d
first_is rows i d e =
    let p = position-Some (λ row. line_waits row.1) rows i d e in
    first_at rows i d p.0 p.1 p.2

-- ---- it is reported

-- a line with a pending indication can give one
pub never_popped : {A : Type 0} (items : List Indication) (n : ℕ) → n ≡ length items → n ≡ 0 →
    not (length (map shown_by items) == 0) ≡ true → A
never_popped [] n len none waits = cc
never_popped (x ∷ items) n len none waits = absurd (omega arith)

pub record IsTold (rows items : Rows Line) (i : ℕ) (row new : ℕ × Line) (shown : Shown) : Type 0 where
  pub first : first_shown rows ≡ Some (row.0, shown)
  pub rest : set items i new ≡ without_first rows

pub told_first : (rows items : Rows Line) (i : ℕ) (row new : ℕ × Line) (shown : Shown) → position (λ row. line_waits row.1) rows ≡ Some i →
    row ≡ get_or rows i row → items ≡ rows → TellsOf (Some shown) row new → IsTold rows items i row new shown
told_first rows items i row new shown e here same h = let p = first_is rows i row e in grind (arith, p.rest shown new.1.waiting, set)
