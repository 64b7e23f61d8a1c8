use Rattle.osi_spdu.proofs.tsdu.units_after_the_first.{joined_two}
use Rattle.osi_spdu.proofs.groups.Group.pair.Goals as goal

pub one-requires : goal.one-requires
one-requires c = joined_two c.args.first.kind c.args.second.kind c.requires
