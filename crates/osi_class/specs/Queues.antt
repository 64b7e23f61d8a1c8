-- Queued values, the first of which is kept apart.
use Rattle.std.specs.Prelude.{◌≡◌, Bool, List, [], ◌∷◌, Option, Some, None}

-- the queued values, the oldest first, and whether one more needs no memory
pub record Queued (T : Type 0) : Type 0 where
  pub items : List T
  pub has_room : Bool

-- the first, if there is one, and those after it
abbrev pub in_front : {T : Type 0} → Option T → List T → List T
in_front None others = others
in_front (Some first) others = first ∷ others

-- the first one is removed; none exactly if there is none
abbrev pub PopsFirst : {T : Type 0} → Option T → List T → List T → Type 0
PopsFirst None old new = (old ≡ []) × (new ≡ old)
PopsFirst (Some first) old new = old ≡ first ∷ new
