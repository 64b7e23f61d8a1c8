-- What a side of a connection sent, as a stream holds it.
use Rattle.std.specs.Prelude.{◌≡◌, ℕ, ◌&&◌, ◌++◌, ◌∷◌, Bool, true, false, nat_le, if◌then◌else◌, List, [], map, length, drop, slice_range}
use Rattle.std.specs.Prelude.{None}
use Rattle.osi_witness.specs.declared.streams.Stream.{Stream}
use Rattle.osi_witness.specs.declared.streams.Tsdu.{Tsdu}

-- the octets of a TSDU, of all that the side sent
abbrev pub octets_of : List ℕ → Tsdu → List ℕ
octets_of octets t = if nat_le t.start t.end && nat_le t.end (length octets) then slice_range octets t.start t.end else []

-- the TSDUs of a side, in order
abbrev pub tsdus_in : List ℕ → List Tsdu → List (List ℕ)
tsdus_in octets tsdus = map (octets_of octets) tsdus

abbrev pub tsdus_of : Stream → List (List ℕ)
tsdus_of s = tsdus_in s.octets.items s.tsdus.items

-- the octets of the TSDU that isn't whole yet
abbrev pub unfinished : Stream → List ℕ
unfinished s = drop s.start s.octets.items

-- nothing has passed of a side
pub record IsEmpty (s : Stream) : Type 0 where
  pub tsdus : s.tsdus.items ≡ []
  pub octets : s.octets.items ≡ []
  pub start : s.start ≡ 0
  pub kept : s.kept.items ≡ []
  pub limit : s.limit ≡ None
  pub said : s.said.items ≡ []

-- a part of a TSDU passes, and ends it or not
abbrev pub Adds : (end : Bool) → List ℕ → (old new : Stream) → Type 0
Adds true octets old new = (tsdus_of new ≡ tsdus_of old ++ (unfinished old ++ octets) ∷ []) × (unfinished new ≡ [])
Adds false octets old new = (tsdus_of new ≡ tsdus_of old) × (unfinished new ≡ unfinished old ++ octets)

-- what a side sent, and the sessions that are kept of it, stay as they are
pub record Keeps (old new : Stream) : Type 0 where
  pub octets : new.octets ≡ old.octets
  pub tsdus : new.tsdus ≡ old.tsdus
  pub kept : new.kept ≡ old.kept
  pub start : new.start ≡ old.start
  pub begin : new.begin ≡ old.begin
  pub before : new.before ≡ old.before
