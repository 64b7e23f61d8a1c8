-- Two ends, and the memory of their journal.
use Rattle.std.specs.Prelude.{ℕ, ◌+◌, ◌<◌, length}
use Rattle.osi_pair.specs.Ends.{TwoEnds}

pub record Pairing : Type 0 where
  pub ends : TwoEnds
  -- how many entries the journal has memory for, those that it holds included
  pub capacity : ℕ

-- The journal has no memory for the entries that one more packet may cause: 81 indications, and the end of a side.
abbrev pub IsFull : Pairing → Type 0
IsFull p = p.capacity < length p.ends.journal + 82
