use Rattle.osi_session.proofs.Vocabulary.{arith, sent_whole}
use Rattle.osi_session.proofs.sent.data_is_lent_as_it_is_sent.{alone}
use Rattle.osi_session.proofs.lending.in_one.Goals as goal

pub returns-clause-lent : goal.returns-clause-lent
returns-clause-lent c = grind (arith, alone, sent_whole)
