-- Where the records of the connections are that are over, by the numbers of the connections.
use Rattle.std.specs.Prelude.{◌≡◌, ◌==◌, if◌then◌else◌, ℕ, suc, List, [], ◌∷◌, Option, Some, None, option_map, slice_get}
use Rattle.osi_judge.specs.declared.pasts.Past.{Past}

-- the place of the first record with a number
abbrev pub place_of : ℕ → List Past → Option ℕ
place_of number [] = None
place_of number (p ∷ ps) = if p.number == number then Some 0 else option_map suc (place_of number ps)

-- of each number that has a record, the place of the record is noted
abbrev pub AreNoted : (places : List ℕ) → List Past → Type 0
AreNoted places ps = (number at : ℕ) → place_of number ps ≡ Some at → slice_get places number ≡ Some at
