use Rattle.osi_carrier.proofs.stream.a_tsdu_is_lent_from_its_piece.{lent_tells}
use Rattle.osi_carrier.proofs.carrier.Carrier.feed_lent.Goals as goal

pub returns-clause-told : goal.returns-clause-told
returns-clause-told c = lent_tells c.feed_by.result.lent c.feed_by.new.self c.feed_by.ensures.none
