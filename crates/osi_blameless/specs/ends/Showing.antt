-- What a capture shows of the TSDUs that a session sent and took.
use Rattle.std.specs.Prelude.{◌≡◌, ◌<◌, ◌≤◌, ℕ, List, [], ◌∷◌, length, get_or}
use Rattle.osi_side.specs.Explaining.{Told}

-- It shows these of all that were sent, the first of them first. By then at least as many TSDUs of the other side had
-- passed as had been taken, and at most so many.
abbrev pub Shows : (bound : ℕ) → List Told → List Told → Type 0
Shows bound [] all = Unit {0}
Shows bound (t ∷ told) [] = ⊥
Shows bound (t ∷ told) (a ∷ all) = (t.octets ≡ a.octets) × (a.before ≤ t.before) × (t.before ≤ bound) × Shows bound told all

-- as far as these TSDUs go, those that were taken are the same
abbrev pub AreSame : List (List ℕ) → List (List ℕ) → Type 0
AreSame us took = (i : ℕ) → i < length us → get_or us i [] ≡ get_or took i []
