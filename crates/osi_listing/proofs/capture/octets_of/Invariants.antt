use Rattle.osi_listing.proofs.Vocabulary.{◌≡◌, ◌<◌, length, None, IfSome, after_octets, digits_of, digits_left, octets_from}
use Rattle.osi_listing.proofs.capture.octets_of.Given as goal

-- the octets read, and after them those of the rest of the text, are those of the text
abbrev pub invariant-text : goal.invariant-text
invariant-text l = record {
  small : IfSome l.place.high (λ high. high < 16);
  octets : after_octets l.octets.items (octets_from (digits_left l.place.in_comment l.rest) l.place.high)
      ≡ octets_from (digits_of l.text) None;
}

abbrev pub decreases-text : goal.decreases-text
decreases-text l = length l.rest
