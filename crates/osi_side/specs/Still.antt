-- TSDUs that leave a session as it is.
use Rattle.std.specs.Prelude.{◌<◌, ℕ, List, [], length, get_or}
use Rattle.osi_session.specs.Standing.{Seen}
use Rattle.osi_session.specs.Steady.{Hears}

-- the TSDU at this place leaves a session in this state as it is
abbrev pub LeavesAsItIs : List (List ℕ) → (place : ℕ) → Seen → Type 0
LeavesAsItIs us place s = (place < length us) × Hears s (get_or us place []) s
