use Rattle.osi_listing.proofs.Vocabulary.{◌≡◌, ◌++◌, drop, encode_lower}
use Rattle.osi_listing.proofs.lines.push_long_hex.Given as goal

-- what is still to be added follows what was added
abbrev pub invariant-octets : goal.invariant-octets
invariant-octets l = l.text.items ++ encode_lower (drop l.octet-index l.octets) ≡ l.fn.text.items ++ encode_lower l.octets
