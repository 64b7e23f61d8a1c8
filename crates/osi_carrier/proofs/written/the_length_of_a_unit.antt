-- The length of the written form of a unit, and that one unit makes one packet.
use Rattle.std.proofs.Common.{◌≡◌, ℕ, ◌+◌, ◌≤◌, [], ◌∷◌, length, arith, length-append}
use Rattle.osi_carrier.proofs.Vocabulary.{append-nil, packet_of, Value, data0, data2, user_data, written, Fits, header_octets, octets_of}
use Rattle.osi_carrier.proofs.Vocabulary.{Given, part0, part2, ack, unit_of, packets}

pub one_packet_of : (unit : Value) → packets (unit ∷ []) ≡ packet_of (written unit)
one_packet_of unit = append-nil (packet_of (written unit))

pub written_most : (unit : Value) → Fits unit → length (written unit) ≤ 255 + length (user_data unit)
written_most unit fits = grind (arith, length-append)

pub written_least : (unit : Value) → 3 ≤ length (written unit)
written_least unit = grind (arith, length-append)

-- the octets of a packet with a unit that a link gave: its header, the unit's header, and the data
pub given_size : (peer : ℕ) (given : Given) → length (packets (unit_of peer given ∷ [])) ≡ 4 + header_octets given + octets_of given
given_size peer (part0 end octets) = grind (arith, one_packet_of (data0 end octets))
given_size peer (part2 number end octets) =
    let unit = data2 peer number end octets in
    grind (arith, one_packet_of unit)
given_size peer (ack number credit) = grind (arith, one_packet_of)

pub header_most : (given : Given) → header_octets given ≤ 5
header_most given = grind arith
