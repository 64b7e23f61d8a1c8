-- Octets with zeros after them.
use Rattle.std.proofs.Common.{arith, ◌≡◌, ℕ, ◌-◌, List, ◌++◌, length, drop, replicate, ap}
use Rattle.std.proofs.lemmas.List.{drop-replicate}
use Rattle.osi_c.specs.Addressed.{tsap_told, selector_told}
use Rattle.osi_c.specs.declared.addresses.OsiTsap.{OsiTsap}
use Rattle.osi_c.specs.declared.addresses.OsiSelector.{OsiSelector}

-- what was copied to the front of zeros
zeros_behind : (front octets : List ℕ) (most : ℕ) → front ≡ octets →
    front ++ drop (length octets) (replicate most 0) ≡ octets ++ replicate (most - length octets) 0
zeros_behind front octets most same = grind (arith, drop-replicate)

abbrev tsap_with : ℕ → List ℕ → OsiTsap
tsap_with n o = record { octets = o; length = n }

abbrev selector_with : ℕ → List ℕ → OsiSelector
selector_with n o = record { octets = o; length = n }

pub tsap_padded : (front octets : List ℕ) → front ≡ octets →
    tsap_with (length octets) (front ++ drop (length octets) (replicate 32 0)) ≡ tsap_told octets
tsap_padded front octets same = ap (tsap_with (length octets)) (zeros_behind front octets 32 same)

pub selector_padded : (front octets : List ℕ) → front ≡ octets →
    selector_with (length octets) (front ++ drop (length octets) (replicate 16 0)) ≡ selector_told octets
selector_padded front octets same = ap (selector_with (length octets)) (zeros_behind front octets 16 same)
