use Rattle.std.proofs.Common.{[], refl, vec_len, arith}
use Rattle.osi_tpkt.proofs.what_a_cutter_holds.{begins}
use Rattle.osi_tpkt.proofs.cutting.Cutter.new.Goals as goal

pub returns-clause-sound : goal.returns-clause-sound
returns-clause-sound c = begins 0 (vec_len c.new.result) [] refl (omega arith)
