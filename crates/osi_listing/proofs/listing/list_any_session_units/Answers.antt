use Rattle.std.proofs.Common.{arith}
use Rattle.osi_listing.proofs.units_one_after_the_other.{then_read}
use Rattle.osi_listing.proofs.listing.list_any_session_units.Goals as goal

pub returns-in-Ok : goal.returns-in-Ok
returns-in-Ok c = grind (arith, then_read)

pub returns-in-Err : goal.returns-in-Err
returns-in-Err c = grind (arith, then_read)
