use Rattle.osi_class.proofs.Vocabulary.{◌≡◌, map, take, octets_in_parts}
use Rattle.osi_class.proofs.sizes.room_for_parts.Given as goal

abbrev pub invariant-tsdus : goal.invariant-tsdus
invariant-tsdus l = l.room ≡ octets_in_parts l.headers l.limit (map (λ v. v.items) (take l.tsdu-index l.tsdus))
