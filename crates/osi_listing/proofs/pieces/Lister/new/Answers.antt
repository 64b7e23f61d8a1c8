use Rattle.std.proofs.Common.{arith}
use Rattle.osi_listing.proofs.what_is_written_is_the_listing.{nothing_fed}
use Rattle.osi_listing.proofs.pieces.Lister.new.Goals as goal

pub returns-clause-fed : goal.returns-clause-fed
returns-clause-fed c = grind (arith, nothing_fed)
