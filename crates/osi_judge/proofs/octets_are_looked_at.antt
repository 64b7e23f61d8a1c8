-- What the reader of packets says of octets is what their front is: for the packets of one direction.
use Rattle.osi_judge.proofs.Vocabulary.{◌≡◌, ℕ, ◌+◌, ◌<◌, ◌≤◌, List, ◌++◌, length, take, arith, le-ltb, lt-ltb, take-append-drop}
use Rattle.osi_judge.proofs.Vocabulary.{length-append, take-append_seam, IsPacket, IsPartial, IsFaultOf, TpktFault, partial, faulty, whole}
use Rattle.osi_judge.proofs.Vocabulary.{sized, front_of}

-- ---- by the length that the header states

sized_whole : (stated : ℕ) (u rest : List ℕ) → stated ≡ length u + 4 → 3 ≤ length u → sized stated (u ++ rest) ≡ whole u
sized_whole stated u rest e least = grind (arith, length-append u rest, le-ltb stated 7 (omega arith), take-append_seam u rest)

sized_partial : (stated : ℕ) (t more : List ℕ) → stated ≡ length (t ++ more) + 4 → 3 ≤ length (t ++ more) → 0 < length more
    → sized stated t ≡ partial
sized_partial stated t more e least some = grind (arith, length-append, le-ltb, lt-ltb)

-- ---- a packet

pub packet_front : (u s : List ℕ) (n : ℕ) → IsPacket u (take n s) → front_of s ≡ whole u
packet_front u s n p = grind (arith, sized_whole, take-append-drop n s)

-- ---- a part of a packet

part_at : (s more u : List ℕ) → IsPacket u (s ++ more) → 0 < length more → front_of s ≡ partial
part_at s more u p some = grind (arith, sized_partial)

pub partial_front : (s : List ℕ) → IsPartial s → front_of s ≡ partial
partial_front s p = part_at s p.more p.completes.0 p.completes.1 p.some

-- ---- no packet

pub fault_front : (s : List ℕ) (f : TpktFault) → IsFaultOf 0 s f → front_of s ≡ faulty f
fault_front s f h = search arith
