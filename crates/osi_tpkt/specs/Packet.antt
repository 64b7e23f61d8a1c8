-- The packet of RFC 1006 section 6 (TPKT): version, reserved octet, length of the whole packet, transport unit.
use Rattle.std.specs.Prelude.{◌≡◌, ◌≢◌, ℕ, ◌+◌, ◌*◌, ◌/◌, ◌%◌, ◌<◌, ◌≤◌, List, ◌∷◌, ◌++◌, length, slice_index}
use Rattle.osi_unit.specs.Octets.{IsOctets}
use Rattle.osi_tpkt.specs.declared.faults.TpktFault.{TpktFault}
use Rattle.osi_tpkt.specs.declared.faults.TpktFault.TheVariants.{BadVersion, BadLength, OutOfMemory}

-- the octets b are a packet with the transport unit u
pub record IsPacket (u b : List ℕ) : Type 0 where
  pub reserved : ℕ
  pub high : ℕ
  pub low : ℕ
  pub spelled : b ≡ 3 ∷ reserved ∷ high ∷ low ∷ u
  pub octets : IsOctets b
  pub counted : 256 * high + low ≡ length u + 4
  pub at_least : 3 ≤ length u
  pub at_most : length u ≤ 65531

-- the octets are one packet
abbrev pub IsOnePacket : List ℕ → Type 0
IsOnePacket b = (u : List ℕ) × IsPacket u b

-- the octets are a proper prefix of a packet, the empty one included
pub record IsPartial (r : List ℕ) : Type 0 where
  pub more : List ℕ
  pub some : 0 < length more
  pub completes : IsOnePacket (r ++ more)

-- no packet begins with these octets: the first is not the version
abbrev pub IsBadVersion : List ℕ → Type 0
IsBadVersion s = (0 < length s) × (slice_index s 0 ≢ 3)

-- the length that the third and fourth octets give
abbrev pub stated_length : List ℕ → ℕ
stated_length s = 256 * slice_index s 2 + slice_index s 3

-- no packet begins with these octets: the header gives a length below 7
abbrev pub IsBadLength : List ℕ → Type 0
IsBadLength s = (4 ≤ length s) × (slice_index s 0 ≡ 3) × (stated_length s < 7)

-- the fault of octets at this offset of the stream
abbrev pub IsFaultOf : ℕ → List ℕ → TpktFault → Type 0
IsFaultOf at s (BadVersion offset) = IsBadVersion s × (offset ≡ at)
IsFaultOf at s (BadLength offset) = IsBadLength s × (offset ≡ at)
IsFaultOf at s OutOfMemory = ⊥

-- the packet in its written form: the reserved octet is 0
abbrev pub packet_of : List ℕ → List ℕ
packet_of u = 3 ∷ 0 ∷ ((length u + 4) / 256) ∷ ((length u + 4) % 256) ∷ u

-- what a packet can carry
pub record IsUnit (u : List ℕ) : Type 0 where
  pub at_least : 3 ≤ length u
  pub at_most : length u ≤ 65531
  pub octets : IsOctets u
