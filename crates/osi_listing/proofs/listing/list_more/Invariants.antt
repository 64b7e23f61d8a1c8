use Rattle.osi_listing.proofs.Vocabulary.{length, units_behind}
use Rattle.osi_listing.proofs.units_one_after_the_other.{ListsUnits}
use Rattle.osi_listing.proofs.listing.list_more.Given as goal

abbrev pub invariant-units : goal.invariant-units
invariant-units l = ListsUnits l.fn.text.items l.text.items l.fn.counts l.counts (units_behind l.left) (units_behind l.fn.left)

abbrev pub decreases-units : goal.decreases-units
decreases-units l = length (units_behind l.left)
