-- Octets that are sent as TSDUs together: in pieces of one size, each after its head.
use Rattle.std.specs.Prelude.{◌≡◌, ℕ, zero, suc, ◌+◌, ◌^◌, ◌<◌, ◌≤◌, nat_le, if◌then◌else◌, List, [], ◌∷◌, ◌++◌, length, take, drop}
use Rattle.std.specs.Prelude.{Option, Some, None}
use Rattle.osi_class.specs.Giving.{one_by_one}
use Rattle.osi_class.specs.Link.{Standing}
use Rattle.osi_class.specs.Tsdus.{Part, give, octets_of_tsdus}
use Rattle.osi_carrier.specs.declared.pieces.Pieces.{Pieces}

-- TSDUs with `size` octets each, after their heads; the last has the rest
abbrev pub headed : (fuel : ℕ) (head middle last : List ℕ) (size : ℕ) → List ℕ → List (List ℕ)
headed zero head middle last size octets = (last ++ octets) ∷ []
headed (suc fuel) head middle last size octets =
    if nat_le (length octets) size then (last ++ octets) ∷ []
    else (head ++ take size octets) ∷ headed fuel middle middle last size (drop size octets)

-- those that are still to come, from this head on
abbrev pub tsdus_from : Pieces → (head octets : List ℕ) → List (List ℕ)
tsdus_from p head octets = headed (length octets) head p.middle.now p.last.now p.size octets

-- all of them
abbrev pub tsdus_in : Pieces → List (List ℕ)
tsdus_in p = tsdus_from p p.first.now p.octets.now

-- a head has few octets, and with a piece no more than a TSDU may have
abbrev pub FitsTsdu : ℕ → List ℕ → Type 0
FitsTsdu size head = (length head ≤ 123) × (length head + size ≤ 1048576)

pub record FitTsdus (p : Pieces) : Type 0 where
  pub some : 0 < p.size
  pub first : FitsTsdu p.size p.first.now
  pub middle : FitsTsdu p.size p.middle.now
  pub last : FitsTsdu p.size p.last.now

-- ---- what waits

-- without the next part, what is left after more of them; all of it if there is no part
abbrev pub left_by : List (List ℕ) → Option (Part × List (List ℕ)) → (List (List ℕ) → List (List ℕ)) → List (List ℕ)
left_by tsdus None more = tsdus
left_by tsdus (Some (part, rest)) more = more rest

-- what is left of TSDUs after so many units, each with at most `limit` octets of one
abbrev pub left_after : (units limit : ℕ) → List (List ℕ) → List (List ℕ)
left_after zero limit tsdus = tsdus
left_after (suc n) limit tsdus = left_by tsdus (give limit tsdus) (left_after n limit)

-- Nothing is to be sent before TSDUs that are handed in together, and this many of their units may be sent now. Then the
-- link keeps what is left of them. Their octets can be counted.
pub record SomeGo (link : Standing) (units : ℕ) (tsdus : List (List ℕ)) : Type 0 where
  pub alone : link.ends.unsent ≡ []
  pub left : (one_by_one link tsdus).ends.unsent ≡ left_after units link.ends.limit tsdus
  pub counted : octets_of_tsdus tsdus < 2 ^ 64
