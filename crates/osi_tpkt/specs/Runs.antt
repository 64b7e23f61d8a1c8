-- Runs of calls of one cutter, the octets that they used and the packets that they gave.
use Rattle.std.specs.Prelude.{◌≡◌, ℕ, ◌+◌, ◌-◌, ◌⊎◌, List, [], ◌∷◌, ◌++◌, length, take, Some, Result, Ok, Err, Contains}
use Rattle.std.specs.List.{flat_map}
use Rattle.osi_tpkt.specs.Packet.{IsPacket, IsPartial, IsFaultOf}
use Rattle.osi_tpkt.specs.Stream.{ArePackets, Cuts, offset_of}
use Rattle.osi_tpkt.specs.Stream.Ending.{Faulty, Rest}
use Rattle.osi_tpkt.specs.Held.{Held, IsHolding}
use Rattle.osi_tpkt.specs.Cutter.{Feeds, Advances}
use Rattle.osi_tpkt.specs.declared.faults.TpktFault.{TpktFault}
use Rattle.osi_tpkt.specs.declared.cutting.Fed.{Fed}

-- a call, with its argument and its result
pub data CutterCall : Type 0 where
  Feed : List ℕ → Result Fed TpktFault → CutterCall
  Advance : CutterCall

-- the octets that a call used
abbrev pub used_by : CutterCall → List ℕ
used_by (Feed piece (Ok fed)) = take fed.used piece
used_by (Feed piece (Err f)) = []
used_by Advance = []

-- the octets that the calls used, in order
abbrev pub stream_of : List CutterCall → List ℕ
stream_of calls = flat_map used_by calls

-- what is dropped: the unit of the packet that is ready, or nothing
abbrev pub Drops : List ℕ → List (List ℕ) → Type 0
Drops octets units = ((u : List ℕ) × IsPacket u octets × (units ≡ u ∷ [])) ⊎ (IsPartial octets × (units ≡ []))

-- one call, and the units of the packets that it drops
abbrev pub CutterStep : Held → CutterCall → List (List ℕ) → Held → Type 0
CutterStep old (Feed piece result) units new = Feeds old piece result new × (units ≡ [])
CutterStep old Advance units new = Advances old new × Drops old.octets units

-- calls one after the other, and the units of the packets that they drop
abbrev pub CutterRun : Held → List CutterCall → List (List ℕ) → Held → Type 0
CutterRun old [] units new = (units ≡ []) × (new ≡ old)
CutterRun old (call ∷ calls) units new =
    (mid : Held) × (first : List (List ℕ)) × (rest : List (List ℕ)) × CutterStep old call first mid × CutterRun mid calls rest new × (units ≡ first ++ rest)

-- the packets dropped, and the one that is ready, are those of the stream that was used; a fault is the fault of this
-- stream followed by the refused piece
pub record CutterReads (calls : List CutterCall) (units : List (List ℕ)) (held : Held) : Type 0 where
  pub partial : IsPartial held.octets → Cuts (stream_of calls) units (Rest (length held.octets))
  pub standing : (u : List ℕ) → IsPacket u held.octets → Cuts (stream_of calls) (units ++ u ∷ []) (Rest 0)
  pub faulty : (f : TpktFault) → held.fault ≡ Some f →
      (piece : List ℕ) × Contains calls (Feed piece (Err f)) × Cuts (stream_of calls ++ piece) units (Faulty f)

-- the same of a cutter in any state: the octets that it held, followed by those used, are the packets dropped and then
-- what is held now; a fault was there before, or is the fault of what is held followed by the refused piece
pub record CutterReadsOn (old : Held) (calls : List CutterCall) (units : List (List ℕ)) (new : Held) : Type 0 where
  pub packets : ArePackets units (old.octets ++ stream_of calls) new.octets
  pub offset : new.offset ≡ offset_of (old.offset + (length (old.octets ++ stream_of calls) - length new.octets))
  pub sound : IsHolding new
  pub faulty : (f : TpktFault) → new.fault ≡ Some f → (old.fault ≡ Some f)
      ⊎ ((piece : List ℕ) × Contains calls (Feed piece (Err f)) × IsFaultOf new.offset (new.octets ++ piece) f)
