-- The meaning of a trace, and the effect of each of its calls.
use Rattle.std.specs.Prelude.{◌≡◌, ℕ, ◌+◌, ◌<◌, ◌≤◌, ◌⊎◌, Bool, true, false, List, [], ◌++◌, length, vec_capacity}
use Rattle.std.specs.BTreeMap.{btree_map_len}
use Rattle.osi_listing.specs.declared.counting.Counts.{Counts}
use Rattle.osi_listing.specs.declared.pieces.Lister.{Lister}
use Rattle.osi_listing.specs.declared.traces.Keeping.{Keeping}
use Rattle.osi_listing.specs.declared.traces.Keeping.TheVariants.{Lines, Counters, Nothing}
use Rattle.osi_listing.specs.declared.traces.Trace.{Trace}
use Rattle.osi_listing.specs.Fed.{IsFed, IsLost, Feeds}
use Rattle.osi_listing.specs.Joins.{join_value, join_at}
use Rattle.osi_listing.specs.Streams as streams
use Rattle.osi_listing.specs.SoFar.{IsListedSoFar}

-- what a lister counted, and how many octets it was fed
abbrev pub counted_by : Lister → Counts
counted_by lister = lister.work.counts

abbrev pub octets_fed : Lister → ℕ
octets_fed lister = lister.octets

-- how many streams of class 2 have an unfinished TSDU
abbrev pub unfinished : Lister → ℕ
unfinished lister = btree_map_len lister.work.streams.class_2

-- the octets that are kept of a stream
abbrev pub kept_of : streams.Join → ℕ
kept_of (streams.Join.Begun octets) = length octets
kept_of streams.Join.Dropping = 0

-- what a lister keeps: less than a packet, and of each stream at most a TSDU
pub record KeepsLittle (lister : Lister) : Type 0 where
  pub packet : length lister.work.cutter.octets ≤ 65535
  pub class_0 : kept_of (join_value lister.work.streams.class_0) ≤ 1048576
  pub class_2 : (d : ℕ) → kept_of (join_at lister.work.streams.class_2 d) ≤ 1048576

-- a lister has counted what another one had counted, and no octet more
pub record CountsAlike (old new : Lister) : Type 0 where
  pub counts : counted_by new ≡ counted_by old
  pub octets : octets_fed new ≡ octets_fed old

-- The lines that were given are a prefix of the listing so far of a prefix of the octets that passed. This prefix has so many
-- octets, and its listing these counts.
pub record IsListedInPart (octets given : List ℕ) (taken : ℕ) (counts : Counts) : Type 0 where
  pub took : List ℕ
  pub others : List ℕ
  pub lines : List ℕ
  pub more : List ℕ
  pub passed : octets ≡ took ++ others
  pub many : taken ≡ length took
  pub listed : IsListedSoFar took lines counts
  pub gave : lines ≡ given ++ more

abbrev pub Stands : Keeping → Lister → List ℕ → List ℕ → Type 0
Stands Lines lister octets given = IsFed lister octets given
Stands Counters lister octets given = (lines : List ℕ) × IsFed lister octets lines × (given ≡ [])
Stands Nothing lister octets given = IsListedInPart octets given (octets_fed lister) (counted_by lister)

-- the lines that nobody has fetched yet
abbrev pub unfetched : Trace → List ℕ
unfetched t = t.text.items

-- These octets passed, and these lines were fetched. If the trace keeps lines, the fetched lines and those that nobody
-- has fetched yet are the listing so far of the octets. If it has stopped, they are a prefix of it, and what it counted is
-- that of a prefix of the octets.
abbrev pub IsTraced : Trace → List ℕ → List ℕ → Type 0
IsTraced t octets fetched = Stands t.keeping t.lister octets (fetched ++ unfetched t)

abbrev pub keeps_nothing : Keeping → Bool
keeps_nothing Lines = false
keeps_nothing Counters = false
keeps_nothing Nothing = true

abbrev pub is_stopped : Trace → Bool
is_stopped t = keeps_nothing t.keeping

-- what it counted, and how many octets it took
abbrev pub counted : Trace → Counts
counted t = counted_by t.lister

abbrev pub octets_taken : Trace → ℕ
octets_taken t = octets_fed t.lister

-- the counts of the listing so far of these octets
abbrev pub AreCounted : List ℕ → Counts → Type 0
AreCounted octets counts = (lines : List ℕ) × IsListedSoFar octets lines counts

-- at most 1,048,576 octets of lines; unless it has stopped, at most 64 streams of class 2 have an unfinished TSDU
pub record IsBounded (t : Trace) : Type 0 where
  pub lines : length (unfetched t) ≤ 1048576
  pub streams : is_stopped t ≡ false → unfinished t.lister ≤ 64

-- ---- what a trace keeps after a piece

-- a text can't gain these lines: they are too long, or an allocation would have to make room for them
abbrev pub LacksRoom : ℕ → List ℕ → List ℕ → Type 0
LacksRoom room text lines = (1048576 < length text + length lines) ⊎ (room < length text + length lines)

-- A text, in this room, gains lines if there is room for them and not too many streams have an unfinished TSDU. Otherwise the
-- trace stops: too many streams have one, or the text lacks room.
abbrev pub KeepsOn : ℕ → List ℕ → List ℕ → ℕ → Keeping → List ℕ → Type 0
KeepsOn room text lines streams Lines after = (after ≡ text ++ lines) × (length after ≤ 1048576) × (streams ≤ 64)
KeepsOn room text lines streams Counters after = ⊥
KeepsOn room text lines streams Nothing after = (after ≡ text) × ((64 < streams) ⊎ LacksRoom room text lines)

abbrev pub CountsOn : ℕ → Keeping → Type 0
CountsOn streams Lines = ⊥
CountsOn streams Counters = streams ≤ 64
CountsOn streams Nothing = 64 < streams

-- a lister has listed a piece
abbrev pub HasListed : Lister → List ℕ → Lister → Type 0
HasListed old piece new = (lines : List ℕ) × Feeds old piece [] lines new

-- the lines of a piece find no room
pub record FindsNoRoom (room : ℕ) (text : List ℕ) (old : Lister) (piece : List ℕ) (new : Lister) : Type 0 where
  pub lines : List ℕ
  pub listed : Feeds old piece [] lines new
  pub lacks : LacksRoom room text lines

-- Why a trace stops. Its lister ran out of memory, and has counted nothing of the piece; or the piece was listed, and too many
-- streams are within a TSDU, or, if the trace keeps lines, those of the piece find no room.
abbrev pub HasToStop : Trace → List ℕ → Trace → Type 0
HasToStop old piece new = (IsLost new.lister × CountsAlike old.lister new.lister)
    ⊎ ((HasListed old.lister piece new.lister × (64 < unfinished new.lister))
    ⊎ ((old.keeping ≡ Lines) × FindsNoRoom (vec_capacity old.text) (unfetched old) old.lister piece new.lister))
