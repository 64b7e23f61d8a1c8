-- The indications that the users of an end receive, and their entries in the journal.
use Rattle.std.specs.Prelude.{◌≡◌, ℕ, List, [], ◌∷◌, ◌++◌, length, map, Option, Some, None, ◌⊎◌}
use Rattle.osi_carrier.specs.Rows.{Rows}
use Rattle.osi_carrier.specs.declared.ends.EndReason.{EndReason}
use Rattle.osi_session.specs.Shown.{Shown}
use Rattle.osi_stack.specs.State.{Line, Holding}
use Rattle.osi_pair.specs.Entries.{Entry, shows, ends}
use Rattle.osi_pair.specs.declared.sides.Side.{Side}

-- all pending indications, in the order in which they are given: lowest reference first, and the oldest first for one
-- connection
abbrev pub waiting_in : Rows Line → List (ℕ × Shown)
waiting_in [] = []
waiting_in ((r, line) ∷ lines) = map (λ shown. (r, shown)) line.waiting ++ waiting_in lines

-- the lines when all of them were fetched
abbrev pub quieted : Rows Line → Rows Line
quieted lines = map (λ row. (row.0, record row.1 { waiting = [] })) lines

-- The users receive the pending indications, in order. There are never more than 81: 17 of one TSDU, and a loss for
-- each of 64 connections.
pub record ShowsFirst (old : Holding) (first : List (ℕ × Shown)) (new : Holding) : Type 0 where
  pub shown : waiting_in old.end.lines ≡ first ++ waiting_in new.end.lines
  pub lines : quieted new.end.lines ≡ quieted old.end.lines
  pub rest : new ≡ record old { end = record old.end { lines = new.end.lines } }
  pub most : (waiting_in new.end.lines ≡ []) ⊎ (length first ≡ 81)

abbrev pub shown_entries : Side → List (ℕ × Shown) → List Entry
shown_entries side first = map (λ p. shows side p.0 p.1) first

-- the entry of an end that has ended in this event
abbrev pub end_entries : Side → (before after : Option EndReason) → List Entry
end_entries side None (Some reason) = ends side reason ∷ []
end_entries side None None = []
end_entries side (Some earlier) after = []

-- the entries of the journal for an end to which something happened
abbrev pub told_entries : Side → (before after : Option EndReason) → List (ℕ × Shown) → List Entry
told_entries side before after first = shown_entries side first ++ end_entries side before after

-- the users of a side receive the pending indications, and the journal notes them
pub record Tells (side : Side) (old : Holding) (before : List Entry) (new : Holding) (after : List Entry) : Type 0 where
  pub first : List (ℕ × Shown)
  pub shows : ShowsFirst old first new
  pub says : after ≡ before ++ shown_entries side first
