use Rattle.osi_listing.proofs.Vocabulary.{List, length, units_left, Part, Holds}
use Rattle.osi_listing.proofs.units_one_after_the_other.{Advanced}
use Rattle.osi_listing.proofs.listing.list_each.Given as goal

abbrev pub invariant-units : goal.invariant-units
invariant-units l = (earlier : List Part) → Holds l.fn.streams earlier →
    Advanced l.fn.text.items l.text.items l.fn.counts l.counts l.streams (units_left l.units) earlier (units_left l.fn.units)

abbrev pub decreases-units : goal.decreases-units
decreases-units l = length (units_left l.units)
