use Rattle.std.proofs.Common.{arith}
use Rattle.osi_listing.specs.Counting.{one_more}
use Rattle.osi_listing.proofs.units_one_after_the_other.{then_units}
use Rattle.osi_listing.proofs.listing.list_tsdu.Goals as goal

pub returns-in-Some : goal.returns-in-Some
unfolding one_more
returns-in-Some c = grind (arith, then_units)

pub returns : goal.returns
unfolding one_more
returns c = grind (arith, then_units)
