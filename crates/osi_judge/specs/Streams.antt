-- The packets of one direction, octet by octet (RFC 1006 section 6).
use Rattle.std.specs.Prelude.{ℕ, ◌+◌, ◌-◌, ◌*◌, ◌==◌, nat_lt, min, max, Bool, true, false, ◌||◌, if◌then◌else◌}
use Rattle.std.specs.Prelude.{List, [], ◌∷◌, ◌++◌, length, take}
use Rattle.osi_tpkt.specs.Packet.{stated_length}
use Rattle.osi_tpkt.specs.Stream.{offset_of}
use Rattle.osi_side.specs.declared.readings.Reading.{Reading}
use Rattle.osi_tpkt.specs.declared.faults.TpktFault.{TpktFault}
use Rattle.osi_tpkt.specs.declared.faults.TpktFault.TheVariants.{BadVersion, BadLength}

-- what the first octets of a packet are: a part of a packet, no packet, or a whole one with this transport unit
pub data Front : Type 0 where
  partial : Front
  faulty : TpktFault → Front
  whole : List ℕ → Front

-- by the length that the header states, and by what follows the header
abbrev pub sized : (stated : ℕ) → List ℕ → Front
sized stated octets = if nat_lt stated 7 then faulty (BadLength 0)
    else (if nat_lt (length octets + 4) stated then partial else whole (take (stated - 4) octets))

-- the first octet is the version, 3
abbrev pub by_version : (version : ℕ) → Front → Front
by_version version front = if version == 3 then front else faulty (BadVersion 0)

abbrev pub front_of : List ℕ → Front
front_of [] = partial
front_of (version ∷ []) = by_version version partial
front_of (version ∷ reserved ∷ []) = by_version version partial
front_of (version ∷ reserved ∷ high ∷ []) = by_version version partial
front_of (version ∷ reserved ∷ high ∷ low ∷ octets) = by_version version (sized (256 * high + low) octets)

-- one direction: its whole packets, its octets, the offset of the current packet and its octets so far; spent: no packet begins
-- there, and nothing more is read
pub record Streamed : Type 0 where
  pub packets : ℕ
  pub octets : ℕ
  pub at : ℕ
  pub held : List ℕ
  pub spent : Bool

abbrev pub untouched : Streamed
untouched = record { packets = 0; octets = 0; at = 0; held = []; spent = false }

-- a packet begins with the next octet
abbrev pub are_none : List ℕ → Bool
are_none [] = true
are_none (octet ∷ held) = false

abbrev pub begins_at : Streamed → Bool
begins_at t = if t.spent then false else are_none t.held

abbrev pub counted : ℕ → Streamed → Streamed
counted n t = record t { octets = offset_of (t.octets + n) }

-- octets of the current packet
abbrev pub gathered : List ℕ → Streamed → Streamed
gathered octets t = record t { octets = offset_of (t.octets + length octets); held = t.held ++ octets }

-- the current packet is done
abbrev pub advanced : Streamed → Streamed
advanced t = record t { packets = offset_of (t.packets + 1); at = offset_of (t.at + length t.held); held = [] }

abbrev pub ended : Streamed → Streamed
ended t = record t { held = []; spent = true }

-- ---- what is taken of a piece

-- the length of the header, or of the packet once its header is held
abbrev pub whole_of : List ℕ → ℕ
whole_of held = if nat_lt (length held) 4 then 4 else stated_length held

-- the octets up to there, but at least one
abbrev pub wanted : List ℕ → ℕ
wanted held = max (whole_of held - length held) 1

-- how many octets of a piece are taken at once
abbrev pub used_of : Streamed → List ℕ → ℕ
used_of t octets = if t.spent then length octets else min (wanted t.held) (length octets)

-- they are not kept: there are none, or nothing more is read
abbrev pub needs_none : Streamed → List ℕ → Bool
needs_none t octets = t.spent || are_none octets

-- what was read of the direction
abbrev pub reading_of : Streamed → Reading
reading_of t = record { packets = t.packets; octets = t.octets; rest = t.octets - t.at }
