use Rattle.std.proofs.Common.{ap, ◌∙◌, arith}
use Rattle.osi_tpkt.specs.declared.cutting.Progress.TheVariants.{Stopped}
use Rattle.osi_tpkt.proofs.what_a_cutter_holds.{ready, kept_sound}
use Rattle.osi_tpkt.proofs.cutting.Cutter.packet.Goals as goal

pub returns-in-Stopped-Whole-clause-sound : goal.returns-in-Stopped-Whole-clause-sound
returns-in-Stopped-Whole-clause-sound c = kept_sound _ _ _ _ _ c.self.invariant.1 c.self.view_is

pub returns-in-Stopped-Whole-clause-some : goal.returns-in-Stopped-Whole-clause-some
returns-in-Stopped-Whole-clause-some c =
    let i = c.self.inside in
    let is = c.in-Stopped-Whole.is ∙ ap Stopped (rw c.in-Stopped-Whole.is at c.in-Stopped-Whole.field-0-is) in
    ready i.offset i.held _ i.storage.items c.as_slice.result.now i.progress _ is c.self.invariant.1 (omega arith) c.as_slice.ensures.value
    c.self.view_is
