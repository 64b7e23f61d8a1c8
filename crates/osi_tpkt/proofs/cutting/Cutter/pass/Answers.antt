use Rattle.std.proofs.Common.{arith}
use Rattle.osi_tpkt.proofs.what_a_cutter_holds.{passed_sound}
use Rattle.osi_tpkt.proofs.cutting.Cutter.pass.Goals as goal

pub returns-clause-sound : goal.returns-clause-sound
returns-clause-sound c = search (arith, passed_sound)
