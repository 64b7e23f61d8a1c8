use Rattle.std.proofs.Common.{arith}
use Rattle.osi_listing.specs.Counting.{one_more}
use Rattle.osi_listing.specs.Listing.{line_of}
use Rattle.osi_listing.proofs.units_one_after_the_other.{then_fault}
use Rattle.osi_listing.proofs.listing.list_any_units.Goals as goal

pub returns-in-Err-clause-says : goal.returns-in-Err-clause-says
unfolding line_of one_more
returns-in-Err-clause-says c = grind (arith, then_fault)
