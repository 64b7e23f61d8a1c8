-- The effect of one look at the stream, up to the end of the first complete packet.
use Rattle.std.specs.Prelude.{◌≡◌, ◌≢◌, ℕ, ◌+◌, ◌<◌, ◌≤◌, Bool, true, List, [], ◌++◌, length, take, Some, None, ◌⊎◌}
use Rattle.osi_tpkt.specs.Packet.{IsPacket, IsPartial, IsFaultOf}
use Rattle.osi_tpkt.specs.Stream.{offset_of}
use Rattle.osi_tpkt.specs.declared.faults.TpktFault.{TpktFault}
use Rattle.osi_carrier.specs.Lending.{carrying_lent}
use Rattle.osi_carrier.specs.Packets.{Carrying, IsReading, HasToHold, Acts}
use Rattle.osi_carrier.specs.State.{ends, fails}
use Rattle.osi_carrier.specs.declared.carrier.feeding.Fetched.{Fetched}
use Rattle.osi_carrier.specs.declared.carrier.feeding.Fetched.TheVariants.{Packet, Lent, Part, Over}
use Rattle.osi_carrier.specs.declared.ends.CarrierFault.TheVariants.{Tpkt}
use Rattle.osi_carrier.specs.declared.ends.EndReason.TheVariants.{NoMemory}
use Rattle.osi_carrier.specs.declared.lending.Lent.{Lent as Tsdu}

-- this many octets completed a packet, which took effect and was dropped
pub record PacketActs (old : Carrying) (octets : List ℕ) (used : ℕ) (new : Carrying) : Type 0 where
  pub packet : List ℕ
  pub some : 0 < used
  pub within : used ≤ length octets
  pub whole : IsPacket packet (old.held.octets ++ take used octets)
  pub acted : Acts old.state packet new.state
  pub held : new.held.octets ≡ []
  pub reading : IsReading new.held
  pub offset : new.held.offset ≡ offset_of (old.held.offset + length (old.held.octets ++ take used octets))
  pub room : old.held.room ≤ new.held.room

-- the same, if the packet was a TSDU that the caller wants to have lent: its event is queued nowhere
pub record PacketLent (wanted : Bool) (old : Carrying) (octets : List ℕ) (used : ℕ) (lent : Tsdu) (new : Carrying) : Type 0 where
  pub asked : wanted ≡ true
  pub acts : PacketActs old octets used (carrying_lent (Some lent) new)
  pub alone : new.state.events ≡ []
  pub lasts : new.state.ended ≡ None

-- the octets are held, and the packet is unfinished
pub record PartHeld (old : Carrying) (octets : List ℕ) (new : Carrying) : Type 0 where
  pub state : new.state ≡ old.state
  pub held : new.held.octets ≡ old.held.octets ++ octets
  pub partial : IsPartial new.held.octets
  pub offset : new.held.offset ≡ old.held.offset
  pub room : old.held.room ≤ new.held.room

pub record Faults (old : Carrying) (octets : List ℕ) (new : Carrying) : Type 0 where
  pub fault : TpktFault
  pub is : IsFaultOf old.held.offset (old.held.octets ++ octets) fault
  pub ended : new.state ≡ fails (Tpkt fault) old.state

-- memory ran out for octets that have to be held, and they have no fault
pub record LacksRoom (old : Carrying) (octets : List ℕ) (new : Carrying) : Type 0 where
  pub faultless : (at : ℕ) (fault : TpktFault) → IsFaultOf at (old.held.octets ++ octets) fault → ⊥
  pub holds : HasToHold old.held.room old.held.octets octets
  pub ended : new.state ≡ ends NoMemory old.state

-- the octets held and these are no packet, or memory ran out; nothing is held any more
pub record EndsOver (old : Carrying) (octets : List ℕ) (new : Carrying) : Type 0 where
  pub how : Faults old octets new ⊎ LacksRoom old octets new
  pub held : new.held.octets ≡ []

abbrev pub Fetches : Bool → Carrying → List ℕ → Fetched → Tsdu → Carrying → Type 0
Fetches wanted old octets (Packet used) lent new = PacketActs old octets used new
Fetches wanted old octets (Lent used) lent new = PacketLent wanted old octets used lent new
Fetches wanted old octets Part lent new = PartHeld old octets new
Fetches wanted old octets Over lent new = EndsOver old octets new

-- there is no complete packet at the front of these octets
abbrev pub IsNoFront : List ℕ → Type 0
IsNoFront octets = (unit packet rest : List ℕ) → IsPacket unit packet → octets ≢ packet ++ rest
