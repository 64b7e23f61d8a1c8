-- A lister keeps less than a packet, and of each stream at most a TSDU. For the law `a_lister_keeps_little`.
use Rattle.osi_listing.proofs.Vocabulary.{◌≡◌, ℕ, ◌≤◌, false, List, [], ◌∷◌, length, Option, filter, arith, ltb-false, length-append}
use Rattle.osi_listing.proofs.Vocabulary.{IsPartial, Lister, Going, IsFed, Part, Join, joined, after_parts, is_same_stream, Begun, kept_of}
use Rattle.osi_listing.proofs.Vocabulary.{KeepsLittle}
use Rattle.osi_listing.specs.Streams.{join_of}

partial_short : (r : List ℕ) → IsPartial r → length r ≤ 65535
partial_short r partial = grind (arith, length-append r partial.more)

after_short : (join : Join) (parts : List Part) → kept_of join ≤ 1048576 → kept_of (after_parts join parts) ≤ 1048576
after_short join [] h = h
after_short join (p ∷ parts) h = after_short (joined join p.end p.octets) parts (grind (arith, length-append, ltb-false))

join_short : (stream : Option ℕ) (parts : List Part) → kept_of (join_of stream parts) ≤ 1048576
unfolding join_of
join_short stream parts = after_short (Begun []) (filter (λ p. is_same_stream stream p.stream) parts) (omega arith)

pub keeps_little : (lister : Lister) (octets lines : List ℕ) → IsFed lister octets lines → lister.stage ≡ Going → KeepsLittle lister
keeps_little lister octets lines fed going = grind (arith, partial_short, join_short)
