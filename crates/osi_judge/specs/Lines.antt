-- One side of a connection, by what passed of it.
use Rattle.std.specs.Prelude.{ℕ, ◌+◌, zero, suc, Bool, true, false, List, [], ◌∷◌, ◌++◌, length, map, Option, Some, None}
use Rattle.osi_tpkt.specs.Stream.{offset_of}
use Rattle.osi_side.specs.Explaining.{Told}
use Rattle.osi_side.specs.Keeping.{once, room_in}
use Rattle.osi_side.specs.Outlines.{outlines}

-- a TSDU of a side: its octets, how many TSDUs of the other side had passed before its first packet began, and the offset of
-- the packet in which it ended
pub record Said : Type 0 where
  pub octets : List ℕ
  pub before : ℕ
  pub at : ℕ

-- an unfinished TSDU: its octets so far, and how many of the other side's had passed before its first packet began
pub record Begun : Type 0 where
  pub octets : List ℕ
  pub before : ℕ

-- the offset of the packet in which the TSDU ended that has this place among those of a side, counted from 0
abbrev pub place_in : List Said → ℕ → Option ℕ
place_in [] i = None
place_in (t ∷ said) zero = Some t.at
place_in (t ∷ said) (suc i) = place_in said i

-- a side of a connection: its TSDUs, the unfinished one, and how many of the other side's had passed before its current packet
-- began
pub record Spoken : Type 0 where
  pub said : List Said
  pub begun : Option Begun
  pub since : ℕ

abbrev pub silent : Spoken
silent = record { said = []; begun = None; since = 0 }

abbrev pub told_of : Said → Told
told_of t = record { octets = t.octets; before = t.before }

abbrev pub octets_of : Said → List ℕ
octets_of t = t.octets

-- its TSDUs, as a session is judged by them
abbrev pub told : Spoken → List Told
told s = map told_of s.said

-- as the other side hears them
abbrev pub heard : Spoken → List (List ℕ)
heard s = map octets_of s.said

abbrev pub begun_octets : Option Begun → List ℕ
begun_octets None = []
begun_octets (Some b) = b.octets

-- the room that these TSDUs and the unfinished one take as they are kept: the outlines of the TSDUs, of equal ones in a row only one,
-- and the octets of the unfinished one
unfoldable pub kept_by : List (List ℕ) → Option Begun → ℕ
kept_by tsdus begun = room_in (once (outlines tsdus)) + length (begun_octets begun)

abbrev pub kept_of : Spoken → ℕ
kept_of s = kept_by (heard s) s.begun

-- how many of the other side's TSDUs had passed before the TSDU to which the current packet adds
abbrev pub begun_before : Option Begun → (since : ℕ) → ℕ
begun_before None since = since
begun_before (Some b) since = b.before

abbrev pub before : Spoken → ℕ
before s = begun_before s.begun s.since

-- a packet of this side begins, after so much of the other side
abbrev pub begins : (other own : Spoken) → Spoken
begins other own = record own { since = offset_of (length other.said) }

-- a DT of this side, in the packet at this offset, adds to its TSDU, and ends it or not
abbrev pub added : (at : ℕ) (end : Bool) → List ℕ → Spoken → Spoken
added at true octets s =
    record s { said = s.said ++ record { octets = begun_octets s.begun ++ octets; before = before s; at = at } ∷ []; begun = None }
added at false octets s = record s { begun = Some (record { octets = begun_octets s.begun ++ octets; before = before s }) }
