use Rattle.osi_side.proofs.Vocabulary.{refl}
use Rattle.osi_side.proofs.kept.a_tsdu_that_is_read_straight.{ack_word}
use Rattle.osi_side.proofs.straight.ack_unit.Goals as goal

pub returns : goal.returns
returns c = ack_word c.serial_digits.ensures _ c.args.number _ c.minor_ack.ensures.units refl c.args.number.small
