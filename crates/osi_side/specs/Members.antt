-- The sessions that still explain a side, each with how many TSDUs it has taken.
use Rattle.std.specs.Prelude.{◌≡◌, ◌≤◌, ◌<◌, ◌⊎◌, ℕ, Bool, true, false, List, [], ◌∷◌, length, get_or}
use Rattle.osi_side.specs.declared.members.Member.{Member}
use Rattle.osi_side.specs.Explaining.{Remark, Explains}

abbrev pub is_empty : List Member → Bool
is_empty [] = true
is_empty (m ∷ members) = false

-- one of them explains what is sent from here on
abbrev pub SomeExplains : List (List ℕ) → List Member → List Remark → Type 0
SomeExplains us [] ms = ⊥
SomeExplains us (m ∷ members) ms = Explains us ms m.taken m.standing ⊎ SomeExplains us members ms

-- the TSDUs of the other side are those that passed so far, and perhaps more
abbrev pub Extends : List (List ℕ) → List (List ℕ) → Type 0
Extends us heard = (i : ℕ) → i < length heard → get_or us i [] ≡ get_or heard i []

-- at least `heard` TSDUs had arrived when the next remark was sent
abbrev pub IsBehind : ℕ → List Remark → Type 0
IsBehind before [] = Unit {0}
IsBehind before (m ∷ ms) = before ≤ m.before
