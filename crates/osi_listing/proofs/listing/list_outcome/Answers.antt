use Rattle.std.proofs.Common.{arith}
use Rattle.osi_listing.specs.Counting.{one_more}
use Rattle.osi_listing.specs.Listing.{line_of}
use Rattle.osi_listing.proofs.units_one_after_the_other.{then_one}
use Rattle.osi_listing.proofs.listing.list_outcome.Goals as goal

pub returns-in-TooLong : goal.returns-in-TooLong
unfolding line_of one_more
returns-in-TooLong c = grind (arith, then_one)
