use Rattle.osi_session.proofs.Vocabulary.{arith}
use Rattle.osi_session.proofs.sent.what_a_side_may_send.{none_where}
use Rattle.osi_session.proofs.saying.restart_ack.Goals as goal

pub returns-in_err-left-clause-left : goal.returns-in_err-left-clause-left
returns-in_err-left-clause-left c = grind (arith, none_where)
