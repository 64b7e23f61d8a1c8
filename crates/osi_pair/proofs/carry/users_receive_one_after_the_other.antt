-- What is pending for the users, one by one, and how they receive it.
-- For carries, the code of `carrying` and the code of `telling`.
use Rattle.osi_stack.specs.Calls.{without_first}
use Rattle.osi_pair.proofs.Vocabulary.{◌≡◌, ◌∙◌, refl, Rows, EndLine as Line, ℕ, ◌+◌, List, [], ◌∷◌, ◌++◌, length, Option, Some, None, ap}
use Rattle.osi_pair.proofs.Vocabulary.{◌<◌, ◌⊎◌, arith, length-map, append_assoc, length-append, map-append, EndReason, Shown, first_shown}
use Rattle.osi_pair.proofs.Vocabulary.{Holding, Entry, shows, waiting_in, quieted, shown_entries, end_entries, told_entries, Tells, Side}

-- ---- what is pending, one by one

-- if no indication is given first, none is pending, and nothing is taken away
pub none_waits : (lines : Rows Line) → first_shown lines ≡ None → (waiting_in lines ≡ []) × (without_first lines ≡ lines)
none_waits [] e = (refl, refl)
none_waits ((r, line) ∷ lines) e = grind (arith, none_waits lines)

-- one is given, and the others stay pending
pub record IsNext (lines : Rows Line) (p : ℕ × Shown) (rest : Rows Line) : Type 0 where
  pub shown : waiting_in lines ≡ p ∷ waiting_in rest
  pub quiet : quieted rest ≡ quieted lines

-- the first is given
pub next_is : (lines : Rows Line) (p : ℕ × Shown) → first_shown lines ≡ Some p → IsNext lines p (without_first lines)
next_is [] p e = cc
next_is ((r, line) ∷ lines) p e = grind (arith, next_is lines p)

-- ---- a user receives it

-- a user received this many indications
pub record HasShown (side : Side) (old : Holding) (before : List Entry) (count : ℕ) (new : Holding) (after : List Entry) : Type 0 where
  pub first : List (ℕ × Shown)
  pub many : length first ≡ count
  pub shown : waiting_in old.end.lines ≡ first ++ waiting_in new.end.lines
  pub lines : quieted new.end.lines ≡ quieted old.end.lines
  pub rest : new ≡ record old { end = record old.end { lines = new.end.lines } }
  pub says : after ≡ before ++ shown_entries side first

-- the indications, and then the end
pub says_all : (side : Side) (before said after : List Entry) (first : List (ℕ × Shown)) (was is was_then is_then : Option EndReason) →
    said ≡ before ++ shown_entries side first → after ≡ said ++ end_entries side was is → was ≡ was_then → is ≡ is_then →
    after ≡ before ++ told_entries side was_then is_then first
says_all side before said after first was is was_then is_then h k e f = grind (arith, append_assoc)

-- no indication is pending
pub shown_end : (side : Side) (old : Holding) (before : List Entry) (count : ℕ) (mid new : Holding) (after : List Entry) →
    HasShown side old before count mid after → first_shown mid.end.lines ≡ None →
    new ≡ record mid { end = record mid.end { lines = without_first mid.end.lines } } → Tells side old before new after
shown_end side old before count mid new after h e is = grind (arith, none_waits mid.end.lines e)

-- one more is given, and noted
pub shown_then : (side : Side) (old : Holding) (before : List Entry) (count : ℕ) (mid new : Holding) (after said : List Entry)
    (p : ℕ × Shown) → HasShown side old before count mid after → first_shown mid.end.lines ≡ Some p →
    new ≡ record mid { end = record mid.end { lines = without_first mid.end.lines } } → said ≡ after ++ shows side p.0 p.1 ∷ [] →
    HasShown side old before (count + 1) new said
shown_then side old before count mid new after said p h e is says =
    grind (
      arith,
      map-append,
      next_is mid.end.lines p e,
      length-append h.first (p ∷ []),
      append_assoc h.first (p ∷ []) (waiting_in (without_first mid.end.lines)),
      append_assoc before (shown_entries side h.first) (shows side p.0 p.1 ∷ []),
    )

-- there is room as before, or something was noted
pub notes_by : (side : Side) (old : Holding) (before : List Entry) (count : ℕ) (new : Holding) (after : List Entry) (len room : ℕ) →
    HasShown side old before count new after → len + 81 < room + count → (len + 81 < room) ⊎ (length before < length after)
notes_by side old before count new after len room h few = grind (arith, length-append, length-map)

-- and what was noted before the end was
pub notes_then : (old before after first : List Entry) → before ≡ old ++ first → length before < length after → length old < length after
notes_then old before after first says more = let all = ap length says ∙ length-append old first in omega arith
