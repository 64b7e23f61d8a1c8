use Rattle.osi_session.proofs.Vocabulary.{arith, size_of_parts}
use Rattle.osi_session.proofs.sent.data_is_lent_as_it_is_sent.{parted}
use Rattle.osi_session.proofs.lending.in_parts.Goals as goal

pub returns : goal.returns
returns c = grind (arith, size_of_parts, parted)
