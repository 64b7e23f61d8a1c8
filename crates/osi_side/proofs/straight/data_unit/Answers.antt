use Rattle.osi_side.proofs.kept.a_tsdu_that_is_read_straight.{data_word}
use Rattle.osi_side.proofs.straight.data_unit.Goals as goal

pub returns : goal.returns
returns c = data_word _ c.args.user_data.now c.data_transfer.ensures.units
