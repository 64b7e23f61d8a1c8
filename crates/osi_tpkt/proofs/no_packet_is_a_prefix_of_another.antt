-- Laws of packets: what a header states, that no packet is a prefix of another, and that the written form is a packet.
use Rattle.std.proofs.Common.{◌≡◌, ℕ, ◌+◌, ◌≤◌, List, ◌++◌, length, take, refl, ap, arith}
use Rattle.osi_tpkt.proofs.Vocabulary.{get_or_append_left, length-take-le, take_at, IsOctets, IsPacket, IsUnit, packet_of, stated_length}
use Rattle.osi_tpkt.proofs.Vocabulary.{IsFront, IsFull}
use Rattle.osi_unit.proofs.lists_of_octets_stay_octets.{octets_cons}
use Rattle.osi_tpkt.specs.PacketValue.{Anything}
use Rattle.osi_unit.specs.Unit.{IsAtFront}

-- what the header states is in its four octets, whatever follows
pub stated_length-append : (r more : List ℕ) → 4 ≤ length r → stated_length (r ++ more) ≡ stated_length r
stated_length-append r more h = grind (arith, get_or_append_left)

pub packet_front : (u b : List ℕ) → IsPacket u b → IsFront b × IsFull b
packet_front u b p = grind arith

-- no packet is a proper prefix of another
pub one_packet : (u v b c x y : List ℕ) → IsPacket u b → IsPacket v c → b ++ x ≡ c ++ y → (b ≡ c) × (u ≡ v)
one_packet u v b c x y p q e =
    let f = packet_front u b p in
    let g = packet_front v c q in
    let left = stated_length-append b x f.1.0 in
    let right = stated_length-append c y g.1.0 in
    let same : stated_length (b ++ x) ≡ stated_length (c ++ y) = ap stated_length e in
    let lengths : length c ≡ length b = omega arith in
    grind (arith, take_at b x (length b) refl, take_at c y (length b) lengths)

-- two packets at the front of the same octets are the same
pub one_front : (octets u v : List ℕ) (m n : ℕ) → m ≤ length octets → n ≤ length octets →
    IsPacket u (take m octets) → IsPacket v (take n octets) → (u ≡ v) × (m ≡ n)
one_front octets u v m n hm hn p q = grind (arith, length-take-le m octets hm, length-take-le n octets hn)

-- what is written is a packet
pub written_packet : (u : List ℕ) → IsUnit u → IsPacket u (packet_of u)
written_packet u h = grind (arith, octets_cons)

pub packet_reading : (v w : List ℕ) (m n : ℕ) (octets : List ℕ) → IsOctets octets →
    IsAtFront IsPacket Anything v m octets → IsAtFront IsPacket Anything w n octets → (v ≡ w) × (m ≡ n)
packet_reading v w m n octets known h k = one_front octets v w m n h.within k.within h.spelled k.spelled
