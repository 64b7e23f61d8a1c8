-- Values in the order in which they were added, and the room for more.
use Rattle.std.specs.Prelude.{ℕ, ◌+◌, ◌-◌, List, Option, Some, None}

-- the values, the oldest first, and how many more can be added without memory
pub record Kept (T : Type 0) : Type 0 where
  pub items : List T
  pub room : ℕ

-- how many can be added without memory: one more if there is none yet, since the first is kept apart
abbrev pub room_of : {T : Type 0} → Option T → ℕ → ℕ → ℕ
room_of None len capacity = capacity - len + 1
room_of (Some oldest) len capacity = capacity - len
