-- What contracts say that a cutter holds.
use Rattle.std.specs.Prelude.{◌≡◌, ℕ, ◌<◌, ◌^◌, ◌⊎◌, List, [], Option, None}
use Rattle.osi_tpkt.specs.Packet.{IsOnePacket, IsPartial}
use Rattle.osi_tpkt.specs.declared.faults.TpktFault.{TpktFault}

pub record Held : Type 0 where
  -- the place in the stream of the first octet held
  pub offset : ℕ
  -- a packet, or a proper prefix of one
  pub octets : List ℕ
  -- the fault that was returned, and is returned from then on
  pub fault : Option TpktFault
  -- how many octets there is room for without an allocation
  pub room : ℕ

-- a new cutter
abbrev pub fresh : Held
fresh = record { offset = 0; octets = []; fault = None; room = 0 }

-- what is true of every cutter: a proper prefix of a packet is held, or a packet is ready and no fault was answered
pub record IsHolding (held : Held) : Type 0 where
  pub offset : held.offset < 2 ^ 64
  pub octets : IsPartial held.octets ⊎ (IsOnePacket held.octets × (held.fault ≡ None))
