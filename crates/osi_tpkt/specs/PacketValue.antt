-- The meaning of a `Packet`, independent of how its octets are stored.
use Rattle.std.specs.Prelude.{ℕ, List}
use Rattle.osi_tpkt.specs.declared.packets.Packet.{Packet}

-- the octets of its transport unit
abbrev pub unit_of : Packet → List ℕ
unit_of p = p.unit.now

-- any octets may follow a packet
abbrev pub Anything : List ℕ → List ℕ → Type 0
Anything v rest = Unit {0}
