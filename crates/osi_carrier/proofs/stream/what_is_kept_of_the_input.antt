-- The octets that a carrier keeps of its input are bounded.
use Rattle.osi_carrier.proofs.Vocabulary.{ℕ, ◌≤◌, List, length, arith, length-append, IsPartial}

-- a proper prefix of a packet has at most as many octets as a packet
pub partial_short : (r : List ℕ) → IsPartial r → length r ≤ 65535
partial_short r partial = grind (arith, length-append r partial.more)
