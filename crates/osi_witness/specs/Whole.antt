-- The units that are kept of a side are all units of its TSDUs.
use Rattle.std.specs.Prelude.{◌≡◌, ℕ, ◌+◌, ◌≤◌, ◌==◌, ◌++◌, ◌∷◌, Bool, true, nat_le, nat_lt, List, [], map, length, take, get_or}
use Rattle.std.specs.Prelude.{Option, None}
use Rattle.std.specs.List.{list_all}
use Rattle.osi_session.specs.Standing.{Seen, seen_called, seen_calling}
use Rattle.osi_side.specs.Explaining.{Remark, Told, remark, remarks}
use Rattle.osi_side.specs.Judging.{Observed, Observes}
use Rattle.osi_side.specs.Sides.{observed}
use Rattle.osi_side.specs.declared.findings.Finding.TheVariants as found
use Rattle.osi_witness.specs.declared.conversations.Conversation.{Conversation}
use Rattle.osi_witness.specs.declared.streams.Kept.{Kept}
use Rattle.osi_witness.specs.declared.streams.Stream.{Stream}
use Rattle.osi_witness.specs.declared.streams.Tsdu.{Tsdu}
use Rattle.osi_witness.specs.declared.places.Stop.{Stop}
use Rattle.osi_witness.specs.Linked.{IsFollowed}
use Rattle.osi_witness.specs.Streams.{tsdus_in, tsdus_of}
use Rattle.osi_witness.specs.Told.{IsTold}
use Rattle.osi_witness.specs.Trails.{remark_at, remark_of}
use Rattle.osi_witness.specs.Units.{words_of}

abbrev pub octets_told : Told → List ℕ
octets_told t = t.octets

abbrev pub told_as : (tsdu : List ℕ) (before : ℕ) → Told
told_as tsdu before = record { octets = tsdu; before = before }

-- a unit that is kept, of this TSDU
abbrev pub unit_in : List ℕ → Kept → Remark
unit_in tsdu k = remark_at tsdu k.place k.before

abbrev pub is_in : (number : ℕ) → Kept → Bool
is_in number k = k.tsdu == number

-- these are all units of a TSDU with this number, in the order in which they act
pub record AreUnitsOf (tsdu : List ℕ) (number before : ℕ) (ks : List Kept) : Type 0 where
  pub units : map (unit_in tsdu) ks ≡ map (remark (told_as tsdu before)) (words_of tsdu)
  pub numbers : list_all (is_in number) ks ≡ true

-- all units that are kept of a side that sent these TSDUs
abbrev pub units_kept : List (List ℕ) → List Kept → List Remark
units_kept own ks = map (remark_of own) ks

abbrev pub ends_within : (octets : ℕ) → Tsdu → Bool
ends_within octets t = nat_le t.end octets

abbrev pub is_of_first : (tsdus : ℕ) → Kept → Bool
is_of_first tsdus k = nat_lt k.tsdu tsdus

-- The units that are kept of a side are those of its first TSDUs, each in its place: of all but the last few, if there is no limit.
-- These TSDUs are what the judge was told of the side, and it kept the protocol with them.
pub record AllAreKept (few : ℕ) (octets : List ℕ) (tsdus : List Tsdu) (start : ℕ) (ks : List Kept) (limit : Option Stop)
    (side : Observed) : Type 0 where
  pub told : List Told
  pub first : map octets_told told ≡ take (length told) (tsdus_in octets tsdus)
  pub all : limit ≡ None → length told + few ≡ length tsdus
  pub units : units_kept (tsdus_in octets tsdus) ks ≡ remarks told
  pub observes : limit ≡ None → Observes side told
  pub finding : limit ≡ None → side.finding ≡ found.Kept
  -- each TSDU, and the one that isn't whole yet, is within the octets that passed; each unit is of one of the TSDUs
  pub within : list_all (ends_within (length octets)) tsdus ≡ true
  pub begun : start ≤ length octets
  pub numbers : list_all (is_of_first (length tsdus)) ks ≡ true

abbrev pub IsWholeBut : (few : ℕ) → Stream → Type 0
IsWholeBut few s = AllAreKept few s.octets.items s.tsdus.items s.start s.kept.items s.limit (observed s.side)

-- of all its TSDUs, if there is no limit
abbrev pub IsWhole : Stream → Type 0
IsWhole s = IsWholeBut 0 s

abbrev pub IsWholeOn : Conversation → Type 0
IsWholeOn c = IsWhole c.left × IsWhole c.right

-- and no run is told of it yet
abbrev pub IsUntold : Stream → Type 0
IsUntold s = IsWhole s × (s.said.items ≡ [])

-- of either side; and the sessions that are kept of a side lead back to the one that begins, by what the other side sent
abbrev pub IsUntoldOn : Conversation → Type 0
IsUntoldOn c =
    IsUntold c.left × IsUntold c.right × IsFollowed c.left c.right seen_calling × IsFollowed c.right c.left seen_called

abbrev pub AreUntold : List Conversation → Type 0
AreUntold [] = Unit {0}
AreUntold (c ∷ conversations) = IsUntoldOn c × AreUntold conversations

-- A run is told of a side: of a session that begins in this state, and sends all units of the side. There is no limit if the judge found
-- that the side kept the protocol.
pub record HasRun (own heard : Stream) (begin : Seen) : Type 0 where
  pub whole : IsWhole own
  pub told : IsTold own heard begin
  pub unlimited : (observed own.side).finding ≡ found.Kept → own.limit ≡ None

abbrev pub HasRunsOn : Conversation → Type 0
HasRunsOn c = HasRun c.left c.right seen_calling × HasRun c.right c.left seen_called

-- a run is told of either side of each connection
abbrev pub HaveRuns : List Conversation → Type 0
HaveRuns [] = Unit {0}
HaveRuns (c ∷ conversations) = HasRunsOn c × HaveRuns conversations

-- the judge is told of the TSDU with this number
pub record TellsLast (number : ℕ) (old new : Stream) : Type 0 where
  pub octets : new.octets ≡ old.octets
  pub tsdus : new.tsdus ≡ old.tsdus
  pub kept : new.kept ≡ old.kept
  pub start : new.start ≡ old.start
  pub limit : new.limit ≡ old.limit
  pub begin : new.begin ≡ old.begin
  pub before : new.before ≡ old.before
  pub passed : old.before ≤ length (observed old.side).heard
  pub heard : (observed new.side).heard ≡ (observed old.side).heard
  pub begins : (observed new.side).begin ≡ (observed old.side).begin
  pub observes : (told : List Told) → Observes (observed old.side) told
      → Observes (observed new.side) (told ++ told_as (get_or (tsdus_of old) number []) old.before ∷ [])
