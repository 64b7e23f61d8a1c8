use Rattle.osi_class.proofs.Vocabulary.{◌≡◌, map, take, octets_of_tsdus}
use Rattle.osi_class.proofs.sending.octets_of.Given as goal

abbrev pub invariant-tsdus : goal.invariant-tsdus
invariant-tsdus l = l.octets ≡ octets_of_tsdus (map (λ v. v.items) (take l.tsdu-index l.tsdus))
