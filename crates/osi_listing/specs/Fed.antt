-- The meaning of a lister, and the effect of each of its calls.
use Rattle.std.specs.Prelude.{◌≡◌, ◌≢◌, ℕ, ◌-◌, ◌<◌, ◌^◌, List, [], ◌∷◌, ◌++◌, length, drop, Option, Some, None}
use Rattle.osi_tpkt.specs.Held.{Held}
use Rattle.osi_tpkt.specs.Packet.{IsPacket, IsPartial, IsFaultOf}
use Rattle.osi_tpkt.specs.Stream.{ArePackets, offset_of}
use Rattle.osi_tpkt.specs.Stream.Ending.{Faulty}
use Rattle.osi_tpkt.specs.declared.faults.TpktFault.{TpktFault}
use Rattle.osi_listing.specs.declared.counting.Counts.{Counts}
use Rattle.osi_listing.specs.declared.streams.Streams.{Streams}
use Rattle.osi_listing.specs.declared.pieces.Lister.{Lister}
use Rattle.osi_listing.specs.declared.pieces.Stage.{Stage}
use Rattle.osi_listing.specs.declared.pieces.Stage.TheVariants as stage
use Rattle.osi_listing.specs.declared.work.Step.{Step}
use Rattle.osi_listing.specs.declared.work.Step.TheVariants.{Next, All, Fault}
use Rattle.osi_listing.specs.declared.work.Work.{Work}
use Rattle.osi_listing.specs.Counting.{none}
use Rattle.osi_listing.specs.Listing.{all_parts, packet_entries}
use Rattle.osi_listing.specs.Says.{Says, Holds}
use Rattle.osi_listing.specs.SoFar.{IsListedSoFar}

-- the packets of a stream before the rest are listed by these lines
pub record Listed (streams : Streams) (counts : Counts) (offset : ℕ) (stream lines rest : List ℕ) : Type 0 where
  pub units : List (List ℕ)
  pub packets : ArePackets units stream rest
  pub says : Says [] lines none counts (packet_entries 0 [] units)
  pub holds : Holds streams (all_parts units)
  pub place : offset ≡ offset_of (length stream - length rest)

-- a text has gained the lines of the packets between the one rest of a stream and the other
pub record Moves (old : Work) (before rest : List ℕ) (new : Work) (after left : List ℕ) : Type 0 where
  pub listed : (stream lines : List ℕ) → length stream < 2 ^ 64 → Listed old.streams old.counts old.offset stream lines rest →
      (more : List ℕ) × (after ≡ before ++ more) × Listed new.streams new.counts new.offset stream (lines ++ more) left

-- nothing is held, and there was no fault
abbrev pub IsReady : Held → Type 0
IsReady held = (held.octets ≡ []) × (held.fault ≡ None)

-- a proper prefix of a packet is held, and there was no fault
abbrev pub IsGoing : Held → Type 0
IsGoing held = IsPartial held.octets × (held.fault ≡ None)

-- no complete packet is at the front
abbrev pub IsWithoutPacket : List ℕ → Type 0
IsWithoutPacket rest = (u b more : List ℕ) → IsPacket u b → rest ≢ b ++ more

-- the rest of a stream is held; or it has a fault
abbrev pub Leaves : Held → List ℕ → Option TpktFault → Type 0
Leaves held rest None = IsGoing held × (held.octets ≡ rest)
Leaves held rest (Some f) = (start : ℕ) × IsFaultOf start rest f

-- only what is held has changed
abbrev pub OnlyHolds : Work → Work → Type 0
OnlyHolds old new = new ≡ record old { cutter = new.cutter }

abbrev pub used_by : Step → ℕ
used_by (Next used) = used
used_by All = 0
used_by (Fault f) = 0

-- continuing with what is held of a packet
abbrev pub Completes : Work → List ℕ → List ℕ → Step → Work → List ℕ → Type 0
Completes old before piece (Next used) new after = Moves old before (old.cutter.octets ++ piece) new after (drop used piece) × IsReady new.cutter
Completes old before piece All new after = OnlyHolds old new × (after ≡ before) × Leaves new.cutter (old.cutter.octets ++ piece) None
Completes old before piece (Fault f) new after = OnlyHolds old new × (after ≡ before) × Leaves new.cutter (old.cutter.octets ++ piece) (Some f)

-- listing a whole piece
abbrev pub Goes : Work → List ℕ → List ℕ → Option TpktFault → Work → List ℕ → Type 0
Goes old before piece fault new after =
    (left : List ℕ) × Moves old before (old.cutter.octets ++ piece) new after left × Leaves new.cutter left fault

-- ---- a lister

-- after these octets it has written these lines
abbrev pub StandsAt : Stage → Work → List ℕ → List ℕ → Type 0
StandsAt stage.Going work octets lines =
    (rest : List ℕ) × Listed work.streams work.counts work.offset octets lines rest × Leaves work.cutter rest None
StandsAt stage.Faulty work octets lines = (so_far : IsListedSoFar octets lines work.counts) × (f : TpktFault) × (so_far.ending ≡ Faulty f)
StandsAt stage.Lost work octets lines = ⊥

-- it has been fed these octets, and has written these lines
pub record IsFed (lister : Lister) (octets lines : List ℕ) : Type 0 where
  pub counted : lister.octets ≡ length octets
  pub few : length octets < 2 ^ 64
  pub stands : StandsAt lister.stage lister.work octets lines

-- memory ran out, and it lists nothing more
abbrev pub IsLost : Lister → Type 0
IsLost lister = lister.stage ≡ stage.Lost

-- a text has gained the lines of the packets that a piece completed
abbrev pub Feeds : Lister → List ℕ → List ℕ → List ℕ → Lister → Type 0
Feeds old piece before after new =
    (octets lines : List ℕ) → IsFed old octets lines → (more : List ℕ) × (after ≡ before ++ more) × IsFed new (octets ++ piece) (lines ++ more)

-- the same for pieces, one after the other
abbrev pub FeedsAll : Lister → List (List ℕ) → List ℕ → List ℕ → Lister → Type 0
FeedsAll old [] before after new = (after ≡ before) × (new ≡ old)
FeedsAll old (piece ∷ pieces) before after new =
    (mid : Lister) × (text : List ℕ) × Feeds old piece before text mid × FeedsAll mid pieces text after new
