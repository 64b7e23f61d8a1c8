use Rattle.std.proofs.Common.{arith}
use Rattle.osi_listing.specs.Counting.{one_more}
use Rattle.osi_listing.specs.Listing.{line_of}
use Rattle.osi_listing.proofs.units_one_after_the_other.{then_one}
use Rattle.osi_listing.proofs.listing.list_fault.Goals as goal

pub returns : goal.returns
unfolding line_of one_more
returns c = grind (arith, then_one)
