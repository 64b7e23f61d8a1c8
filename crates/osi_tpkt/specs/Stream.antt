-- The packets of a whole stream, and how it ends. The pieces in which it arrives play no part here.
use Rattle.std.specs.Prelude.{◌≡◌, ℕ, ◌+◌, ◌-◌, ◌^◌, min, List, [], ◌∷◌, ◌++◌, length}
use Rattle.osi_tpkt.specs.Packet.{IsPacket, IsPartial, IsFaultOf}
use Rattle.osi_tpkt.specs.declared.faults.TpktFault.{TpktFault}

-- how a stream ends after its last packet: with a fault, or with an unfinished packet of n octets
pub data Ending : Type 0 where
  Faulty : TpktFault → Ending
  Rest : ℕ → Ending

-- s is the packets with these units, one after the other, and then r
abbrev pub ArePackets : List (List ℕ) → List ℕ → List ℕ → Type 0
ArePackets [] s r = s ≡ r
ArePackets (u ∷ us) s r = (b : List ℕ) × (t : List ℕ) × IsPacket u b × (s ≡ b ++ t) × ArePackets us t r

-- the octets r, at this offset and not the beginning of a complete packet, end a stream in this way
abbrev pub EndsAt : ℕ → List ℕ → Ending → Type 0
EndsAt at r (Faulty f) = IsFaultOf at r f
EndsAt at r (Rest n) = IsPartial r × (n ≡ length r)

-- an offset as it is reported: in 64 bits, 2^64 - 1 if it is more
abbrev pub offset_of : ℕ → ℕ
offset_of n = min n (2 ^ 64 - 1)

-- the part of a stream from this offset on is packets with these units and this ending
abbrev pub CutsFrom : ℕ → List ℕ → List (List ℕ) → Ending → Type 0
CutsFrom at s us e = (r : List ℕ) × ArePackets us s r × EndsAt (offset_of (at + (length s - length r))) r e

-- a whole stream is packets with these units and this ending
abbrev pub Cuts : List ℕ → List (List ℕ) → Ending → Type 0
Cuts s us e = CutsFrom 0 s us e
