-- Packets and their prefixes, described by the header alone.
use Rattle.std.specs.Prelude.{◌≡◌, ℕ, ◌<◌, ◌≤◌, List, length, slice_index}
use Rattle.osi_unit.specs.Octets.{IsOctets}
use Rattle.osi_tpkt.specs.Packet.{stated_length}

-- the octets are a prefix of a packet, or a whole packet: the part of the header that has arrived is right
pub record IsFront (h : List ℕ) : Type 0 where
  pub octets : IsOctets h
  pub version : 0 < length h → slice_index h 0 ≡ 3
  pub at_least : 4 ≤ length h → 7 ≤ stated_length h
  pub within : 4 ≤ length h → length h ≤ stated_length h

-- the header is complete, and there are as many octets as it states
abbrev pub IsFull : List ℕ → Type 0
IsFull h = (4 ≤ length h) × (length h ≡ stated_length h)

-- fewer octets than the header states, or no complete header
abbrev pub IsUnfinished : List ℕ → Type 0
IsUnfinished h = 4 ≤ length h → length h < stated_length h
