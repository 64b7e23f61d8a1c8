use Rattle.osi_side.specs.Sides.{observed}
use Rattle.osi_side.proofs.told.what_is_known_of_a_side.{count_kept}
use Rattle.osi_side.proofs.sides.Side.told.Goals as goal

pub returns-clause-kept : goal.returns-clause-kept
returns-clause-kept c = λ told k e. count_kept (observed c.args.self.now) told k e
