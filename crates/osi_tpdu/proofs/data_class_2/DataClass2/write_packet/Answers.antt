use Rattle.osi_tpdu.proofs.Vocabulary.{append_assoc, arith}
use Rattle.osi_tpdu.proofs.packets_of_one_dt_or_ak.{data2_again}
use Rattle.osi_tpdu.proofs.data_class_2.DataClass2.write_packet.Goals as goal

pub returns-clause-ok : goal.returns-clause-ok
returns-clause-ok c = grind (arith, append_assoc)

pub returns-clause-again : goal.returns-clause-again
returns-clause-again c = grind (arith, data2_again)
