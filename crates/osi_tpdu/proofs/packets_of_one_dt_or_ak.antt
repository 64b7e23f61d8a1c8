-- Packets of one DT or one AK.
use Rattle.osi_tpdu.proofs.Vocabulary.{eq-eqb, length-drop, take_all, IsOctets, units_at, units_of, header_at, unit_at, value_of}
use Rattle.osi_tpdu.proofs.Vocabulary.{transfer_of, acknowledge_of, Spells, Value, data0, data2, acknowledge, written, ◌≡◌, ℕ, ◌+◌, ◌-◌}
use Rattle.osi_tpdu.proofs.Vocabulary.{◌*◌, ◌/◌, ◌%◌, ◌<◌, ◌≤◌, Bool, leb, List, [], ◌∷◌, length, get_or, take, drop, Ok, refl, arith}
use Rattle.osi_tpdu.proofs.one_unit_is_read.{header_again}
use Rattle.osi_tpdu.proofs.the_written_form_spells_its_value.{written_spells}
use Rattle.osi_tpdu.proofs.the_units_of_a_packet.{units_found, units_only}

-- a unit that takes all octets of a packet is its only one
only_unit : (unit : Value) (octets : List ℕ) → unit_at 0 octets ≡ Ok (unit, length octets) → units_of octets ≡ Ok (unit ∷ [])
unfolding units_of units_at
only_unit unit octets e = grind (arith, eq-eqb)

data0_only : (last : ℕ) (user : List ℕ) → units_of (2 ∷ 240 ∷ last ∷ user) ≡ Ok (data0 (leb 128 last) user ∷ [])
unfolding unit_at value_of transfer_of
data0_only last user = search (arith, only_unit, header_again 0 (240 ∷ last ∷ []) user (omega arith) (omega arith), leb 128 last)

data2_only : (high low last : ℕ) (user : List ℕ) →
    units_of (4 ∷ 240 ∷ high ∷ low ∷ last ∷ user) ≡ Ok (data2 (256 * high + low) (last % 128) (leb 128 last) user ∷ [])
unfolding unit_at value_of transfer_of
data2_only high low last user =
    let front = 240 ∷ high ∷ low ∷ last ∷ [] in
    let header : header_at 0 (4 ∷ 240 ∷ high ∷ low ∷ last ∷ user) ≡ Ok (front, user) =
    header_again 0 front user (omega arith) (omega arith) in
    only_unit (data2 (256 * high + low) (last % 128) (leb 128 last) user) (4 ∷ 240 ∷ high ∷ low ∷ last ∷ user) (rw header refl)

ack_only : (first high low last : ℕ) → first / 16 ≡ 6 →
    units_of (4 ∷ first ∷ high ∷ low ∷ last ∷ []) ≡ Ok (acknowledge (first % 16) (256 * high + low) (last % 128) ∷ [])
unfolding unit_at value_of acknowledge_of
ack_only first high low last code =
    let front = first ∷ high ∷ low ∷ last ∷ [] in
    let header : header_at 0 (4 ∷ first ∷ high ∷ low ∷ last ∷ []) ≡ Ok (front, []) = header_again 0 front [] (omega arith) (omega arith) in
    only_unit (acknowledge (first % 16) (256 * high + low) (last % 128)) (4 ∷ first ∷ high ∷ low ∷ last ∷ []) (rw (header, code) refl)

-- ---- the same for the octets of a packet, one by one

abbrev data0_in : List ℕ → Value
data0_in packet = data0 (leb 128 (get_or packet 2 0)) (take (length packet - 3) (drop 3 packet))

abbrev data2_in : List ℕ → Value
data2_in packet = data2 (256 * get_or packet 2 0 + get_or packet 3 0) (get_or packet 4 0 % 128) (leb 128 (get_or packet 4 0))
    (take (length packet - 5) (drop 5 packet))

abbrev ack_in : List ℕ → Value
ack_in packet = acknowledge (get_or packet 1 0 % 16) (256 * get_or packet 2 0 + get_or packet 3 0) (get_or packet 4 0 % 128)

pub data0_read : (packet : List ℕ) → 3 ≤ length packet → get_or packet 0 0 ≡ 2 → get_or packet 1 0 ≡ 240 →
    units_of packet ≡ Ok (data0_in packet ∷ [])
data0_read packet long a b = grind (arith, units_of, data0_only, leb, take_all, length-drop)

pub data2_read : (packet : List ℕ) → 5 ≤ length packet → get_or packet 0 0 ≡ 4 → get_or packet 1 0 ≡ 240 →
    units_of packet ≡ Ok (data2_in packet ∷ [])
data2_read packet long a b = grind (arith, units_of, data2_only, leb, take_all, length-drop)

pub ack_read : (packet : List ℕ) → length packet ≡ 5 → get_or packet 0 0 ≡ 4 → get_or packet 1 0 / 16 ≡ 6 →
    units_of packet ≡ Ok (ack_in packet ∷ [])
ack_read (x ∷ first ∷ high ∷ low ∷ last ∷ []) long a b = grind (arith, units_of, ack_only)
ack_read _ long a b = absurd (omega arith)

-- so they spell that unit

pub data0_found : (packet : List ℕ) → IsOctets packet → 3 ≤ length packet → get_or packet 0 0 ≡ 2 → get_or packet 1 0 ≡ 240 →
    Spells (data0_in packet) packet
data0_found packet octets long a b = units_found packet (data0_in packet ∷ []) octets (data0_read packet long a b)

pub data2_found : (packet : List ℕ) → IsOctets packet → 5 ≤ length packet → get_or packet 0 0 ≡ 4 → get_or packet 1 0 ≡ 240 →
    Spells (data2_in packet) packet
data2_found packet octets long a b = units_found packet (data2_in packet ∷ []) octets (data2_read packet long a b)

pub ack_found : (packet : List ℕ) → IsOctets packet → length packet ≡ 5 → get_or packet 0 0 ≡ 4 → get_or packet 1 0 / 16 ≡ 6 →
    Spells (ack_in packet) packet
ack_found packet octets long a b = units_found packet (ack_in packet ∷ []) octets (ack_read packet long a b)

-- ---- what is written spells the unit, and is read as it

pub data0_spelled : (end : Bool) (user : List ℕ) → IsOctets user → Spells (data0 end user) (written (data0 end user))
data0_spelled end user octets = written_spells (data0 end user) (record { in_range = octets; counted = omega arith })

pub data0_again : (end : Bool) (user : List ℕ) → IsOctets user → units_of (written (data0 end user)) ≡ Ok (data0 end user ∷ [])
data0_again end user octets = units_only (written (data0 end user)) (data0 end user ∷ []) (data0_spelled end user octets)

pub data2_spelled : (destination number : ℕ) (end : Bool) (user : List ℕ) → destination < 65536 → number < 128 → IsOctets user →
    Spells (data2 destination number end user) (written (data2 destination number end user))
data2_spelled destination number end user d n octets = grind (arith, written_spells)

pub data2_again : (destination number : ℕ) (end : Bool) (user : List ℕ) → destination < 65536 → number < 128 → IsOctets user →
    units_of (written (data2 destination number end user)) ≡ Ok (data2 destination number end user ∷ [])
data2_again destination number end user d n octets = search (arith, units_only, data2_spelled)

pub ack_spelled : (credit destination number : ℕ) → credit < 16 → destination < 65536 → number < 128 →
    Spells (acknowledge credit destination number) (written (acknowledge credit destination number))
ack_spelled credit destination number c d n = grind (arith, written_spells)

pub ack_again : (credit destination number : ℕ) → credit < 16 → destination < 65536 → number < 128 →
    units_of (written (acknowledge credit destination number)) ≡ Ok (acknowledge credit destination number ∷ [])
ack_again credit destination number c d n = search (arith, units_only, ack_spelled)
