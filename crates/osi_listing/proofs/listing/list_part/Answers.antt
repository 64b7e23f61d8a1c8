use Rattle.std.proofs.Common.{arith}
use Rattle.osi_listing.proofs.units_one_after_the_other.{then_brought}
use Rattle.osi_listing.proofs.listing.list_part.Goals as goal

pub returns-in-Some-clause-says : goal.returns-in-Some-clause-says
returns-in-Some-clause-says c = grind (arith, then_brought)

pub returns-clause-says : goal.returns-clause-says
returns-clause-says c = grind (arith, then_brought)
