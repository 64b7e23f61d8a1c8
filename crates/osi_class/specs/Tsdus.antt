-- TSDUs and the parts in which they travel. A part is whether it ends its TSDU (EOT), and its octets.
use Rattle.std.specs.Prelude.{◌≡◌, ℕ, Bool, true, false, List, [], ◌∷◌, ◌++◌, length, take, drop, map, nat_lt, Option, Some, None, if◌then◌else◌}
use Rattle.std.specs.List.{sum_by}

abbrev pub Part : Type 0
Part = Bool × List ℕ

-- the TSDUs that parts make, if the first of them continues what was begun; an unfinished group at the end makes none
abbrev pub tsdus_after : List ℕ → List Part → List (List ℕ)
tsdus_after begun [] = []
tsdus_after begun ((false, octets) ∷ parts) = tsdus_after (begun ++ octets) parts
tsdus_after begun ((true, octets) ∷ parts) = (begun ++ octets) ∷ tsdus_after [] parts

abbrev pub tsdus : List Part → List (List ℕ)
tsdus parts = tsdus_after [] parts

-- how many octets TSDUs have together
abbrev pub octets_of_tsdus : List (List ℕ) → ℕ
octets_of_tsdus tsdus = sum_by length tsdus

-- each TSDU as one part
abbrev pub uncut : List (List ℕ) → List Part
uncut unsent = map (λ tsdu. (true, tsdu)) unsent

-- the next part of what is unsent, of `limit` octets or fewer, and what is unsent after it
abbrev pub give : ℕ → List (List ℕ) → Option (Part × List (List ℕ))
give limit [] = None
give limit (tsdu ∷ more) =
    if nat_lt limit (length tsdu) then Some ((false, take limit tsdu), drop limit tsdu ∷ more)
    else Some ((true, tsdu), more)

-- these parts make the same TSDUs as those, whatever was begun before them
abbrev pub MakeTheSame : List Part → List Part → Type 0
MakeTheSame some others = (begun : List ℕ) → tsdus_after begun some ≡ tsdus_after begun others
