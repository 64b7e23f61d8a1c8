use Rattle.std.proofs.Common.{arith}
use Rattle.osi_class.proofs.giving.units_have_at_most_so_many_octets.{some_of_all}
use Rattle.osi_class.proofs.sizes.room_for_parts.Goals as goal

pub returns-in_err-more-clause-none : goal.returns-in_err-more-clause-none
returns-in_err-more-clause-none c = grind (arith, some_of_all)

pub returns-in_err-room-clause-none : goal.returns-in_err-room-clause-none
returns-in_err-room-clause-none c = grind (arith, some_of_all)
