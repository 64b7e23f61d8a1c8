use Rattle.osi_side.proofs.kept.a_tsdu_that_is_read_straight.{item_word}
use Rattle.osi_side.proofs.straight.no_item.Goals as goal

pub returns : goal.returns
returns c = item_word _ c.give_tokens.ensures.units
