-- How much is kept of TSDUs: equal ones in a row are kept once.
use Rattle.std.specs.Prelude.{ℕ, ◌+◌, ◌==◌, ◌&&◌, Bool, true, false, if◌then◌else◌, List, [], ◌∷◌, length}

abbrev pub is_same : List ℕ → List ℕ → Bool
is_same [] [] = true
is_same (x ∷ xs) (y ∷ ys) = (x == y) && is_same xs ys
is_same _ _ = false

-- those that differ from the one before
abbrev pub once_behind : List ℕ → List (List ℕ) → List (List ℕ)
once_behind before [] = []
once_behind before (tsdu ∷ tsdus) = if is_same before tsdu then once_behind tsdu tsdus else tsdu ∷ once_behind tsdu tsdus

abbrev pub once : List (List ℕ) → List (List ℕ)
once [] = []
once (tsdu ∷ tsdus) = tsdu ∷ once_behind tsdu tsdus

-- the octets of TSDUs, each with the seven that a packet and a DT begin with
abbrev pub kept_in : List (List ℕ) → ℕ
kept_in [] = 0
kept_in (tsdu ∷ tsdus) = length tsdu + 7 + kept_in tsdus

-- the room that kept TSDUs take: the octets of each, and 48 more
abbrev pub room_in : List (List ℕ) → ℕ
room_in [] = 0
room_in (tsdu ∷ tsdus) = length tsdu + 48 + room_in tsdus
