use Rattle.std.proofs.Common.{arith}
use Rattle.osi_side.proofs.Vocabulary.{outline, observed}
use Rattle.osi_side.proofs.told.what_is_known_of_a_side.{hears_as}
use Rattle.osi_side.proofs.sides.Side.hear.Goals as goal

pub returns-clause-observes : goal.returns-clause-observes
returns-clause-observes c = λ told k.
    let w = observed c.args.self.now in
    hears_as w (record w { heard = c.hear.new.heard }) (outline c.args.tsdu.now) told
    (grind arith) k
