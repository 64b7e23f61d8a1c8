use Rattle.osi_side.specs.Sides.{observed}
use Rattle.osi_side.proofs.told.what_is_known_of_a_side.{broke_by, left_by}
use Rattle.osi_side.proofs.sides.Side.by.Goals as goal

pub returns-clause-broke : goal.returns-clause-broke
returns-clause-broke c = broke_by (observed c.args.self.now)

pub returns-clause-left : goal.returns-clause-left
returns-clause-left c = left_by (observed c.args.self.now)
