-- How many TSDUs of a side passed before a piece.
use Rattle.std.specs.Prelude.{ℕ, ◌+◌, ◌∷◌, nat_lt, if◌then◌else◌, List, []}
use Rattle.osi_witness.specs.declared.streams.Tsdu.{Tsdu}

-- how many of these TSDUs, from the first on, ended before a piece
abbrev pub passed_first : (piece : ℕ) → List Tsdu → ℕ
passed_first piece [] = 0
passed_first piece (t ∷ tsdus) = if nat_lt t.place.last piece then passed_first piece tsdus + 1 else 0
