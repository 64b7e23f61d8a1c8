use Rattle.std.proofs.Common.{arith}
use Rattle.osi_tpkt.proofs.a_prefix_of_a_packet.{partial_not_whole}
use Rattle.osi_tpkt.proofs.what_a_cutter_holds.{kept_sound, going_on, begins}
use Rattle.osi_tpkt.proofs.cutting.Cutter.advance.Goals as goal

pub returns-in-Stopped-Whole-clause-sound : goal.returns-in-Stopped-Whole-clause-sound
returns-in-Stopped-Whole-clause-sound c = search (arith, begins)

pub returns-in-Stopped-Version-clause-sound : goal.returns-in-Stopped-Version-clause-sound
returns-in-Stopped-Version-clause-sound c = search (arith, kept_sound)

pub returns-in-Stopped-Length-clause-sound : goal.returns-in-Stopped-Length-clause-sound
returns-in-Stopped-Length-clause-sound c = search (arith, kept_sound)

pub returns-in-Awaited : goal.returns-in-Awaited
returns-in-Awaited c =
    let on = going_on _ _ _ _ _ c.in-Awaited.is c.self.invariant.1 c.self.view_is in
    grind (arith, partial_not_whole, kept_sound)
