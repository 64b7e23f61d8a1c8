-- TSDUs in order, of which equal ones in a row are kept once.
use Rattle.std.specs.Prelude.{◌≡◌, false, ◌<◌, ◌≤◌, ℕ, zero, suc, ◌+◌, ◌-◌, List, [], ◌∷◌, ◌++◌, length, replicate}
use Rattle.osi_side.specs.declared.heard.Run.{Run}
use Rattle.osi_side.specs.Keeping.{is_same}

-- where the first of these runs begins; the end of all, if there is none
abbrev pub begin_in : List Run → ℕ → ℕ
begin_in [] count = count
begin_in (r ∷ runs) count = r.from

-- all TSDUs: each run goes on up to the next one, and the last up to the end
abbrev pub spread : List Run → ℕ → List (List ℕ)
spread [] count = []
spread (r ∷ runs) count = replicate (begin_in runs count - r.from) r.tsdu ++ spread runs count

-- the first run begins at this place, each has at least one TSDU, and the last ends at the count
abbrev pub AreFrom : ℕ → List Run → ℕ → Type 0
AreFrom at [] count = at ≡ count
AreFrom at (r ∷ runs) count = (r.from ≡ at) × (at < begin_in runs count) × AreFrom (begin_in runs count) runs count

-- another TSDU than that of the next run
abbrev pub IsOther : List ℕ → List Run → Type 0
IsOther tsdu [] = Unit {0}
IsOther tsdu (r ∷ runs) = is_same tsdu r.tsdu ≡ false

-- equal TSDUs in a row are one run
abbrev pub AreApart : List Run → Type 0
AreApart [] = Unit {0}
AreApart (r ∷ runs) = IsOther r.tsdu runs × AreApart runs

-- the room that their TSDUs take
abbrev pub room_of : List Run → ℕ
room_of [] = 0
room_of (r ∷ runs) = length r.tsdu + 48 + room_of runs

-- where the i-th run begins, counted from 0
abbrev pub begin_at : List Run → ℕ → ℕ → ℕ
begin_at [] count i = count
begin_at (r ∷ runs) count zero = r.from
begin_at (r ∷ runs) count (suc i) = begin_at runs count i

abbrev pub tsdu_at : List Run → ℕ → List ℕ
tsdu_at [] i = []
tsdu_at (r ∷ runs) zero = r.tsdu
tsdu_at (r ∷ runs) (suc i) = tsdu_at runs i

-- the TSDU of the last run
abbrev pub last_in : List Run → List ℕ
last_in [] = []
last_in (r ∷ []) = r.tsdu
last_in (r ∷ s ∷ runs) = last_in (s ∷ runs)

-- where it begins
abbrev pub last_from : List Run → ℕ
last_from [] = 0
last_from (r ∷ []) = r.from
last_from (r ∷ s ∷ runs) = last_from (s ∷ runs)

-- the i-th run has this place
pub record HasPlace (runs : List Run) (count place i : ℕ) : Type 0 where
  pub there : i < length runs
  pub begun : begin_at runs count i ≤ place
  pub ends : place < begin_at runs count (suc i)
