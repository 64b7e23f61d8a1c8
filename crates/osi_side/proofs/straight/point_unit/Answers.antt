use Rattle.osi_side.proofs.Vocabulary.{refl}
use Rattle.osi_side.proofs.kept.a_tsdu_that_is_read_straight.{point_word}
use Rattle.osi_side.proofs.straight.point_unit.Goals as goal

pub returns : goal.returns
returns c = point_word c.serial_digits.ensures _ c.args.number _ c.minor_point.ensures.units refl c.args.number.small
