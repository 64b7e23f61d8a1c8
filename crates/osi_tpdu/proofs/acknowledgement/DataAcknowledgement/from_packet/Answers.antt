use Rattle.osi_tpdu.proofs.Vocabulary.{arith}
use Rattle.osi_tpdu.proofs.packets_of_one_dt_or_ak.{ack_found, ack_read}
use Rattle.osi_tpdu.proofs.acknowledgement.DataAcknowledgement.from_packet.Goals as goal

pub returns-clause-found : goal.returns-clause-found
returns-clause-found c = grind (arith, ack_found)

pub returns-clause-exact : goal.returns-clause-exact
returns-clause-exact c = grind (arith, ack_read)
