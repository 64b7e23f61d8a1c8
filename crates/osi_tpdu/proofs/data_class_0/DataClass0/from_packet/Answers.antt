use Rattle.osi_tpdu.proofs.Vocabulary.{arith}
use Rattle.osi_tpdu.proofs.packets_of_one_dt_or_ak.{data0_found, data0_read}
use Rattle.osi_tpdu.proofs.data_class_0.DataClass0.from_packet.Goals as goal

pub returns-clause-found : goal.returns-clause-found
returns-clause-found c = grind (arith, data0_found)

pub returns-clause-exact : goal.returns-clause-exact
returns-clause-exact c = grind (arith, data0_read)
