-- Data as it is lent to be sent: cut into parts, each after the octets of its head.
use Rattle.std.specs.Prelude.{ℕ, zero, suc, ◌+◌, ◌<◌, ◌≤◌, nat_le, if◌then◌else◌, List, [], ◌∷◌, ◌++◌, length, take, drop}
use Rattle.osi_session.specs.declared.lending.DataParts.{DataParts}

-- TSDUs with `size` octets each, after their heads; the last has the rest
abbrev pub headed : (fuel : ℕ) (head middle last : List ℕ) (size : ℕ) → List ℕ → List (List ℕ)
headed zero head middle last size octets = (last ++ octets) ∷ []
headed (suc fuel) head middle last size octets =
    if nat_le (length octets) size then (last ++ octets) ∷ []
    else (head ++ take size octets) ∷ headed fuel middle middle last size (drop size octets)

-- the TSDUs of data that is cut in this way
abbrev pub tsdus_lent : DataParts → List ℕ → List (List ℕ)
tsdus_lent parts octets = headed (length octets) parts.first.now parts.middle.now parts.last.now parts.size octets

-- a head has few octets, and with a part no more than a TSDU may have
abbrev pub FitsTsdu : ℕ → List ℕ → Type 0
FitsTsdu size head = (length head ≤ 7) × (length head + size ≤ 1048576)

pub record FitTsdus (parts : DataParts) : Type 0 where
  pub some : 0 < parts.size
  pub first : FitsTsdu parts.size parts.first.now
  pub middle : FitsTsdu parts.size parts.middle.now
  pub last : FitsTsdu parts.size parts.last.now
