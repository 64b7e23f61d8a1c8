-- `of_loose` moves the pointer, and the ownership of what is in the box with it.
use Rattle.osi_c.specs.contracts.handles.judge.JudgeHandle.of_loose.Key.{name}
use Rattle.osi_c.proofs.a_handle_is_a_box.{of_loose}
use Rattle.osi_c.proofs.what_each_slot_holds.{of_a_judge}
use Rattle.osi_c.proofs.handles.judge.JudgeHandle.of_loose.Statement.{statement}
use Rattle.osi_c.proofs.handles.judge.JudgeHandle.of_loose.Code as code

pub of_loose_spec : {M : Type 1} → statement M
of_loose_spec 𝓤 𝓛 𝓜 𝓡 wired = of_loose of_a_judge 𝓛 𝓜 𝓡 name (code.unfolded 𝓤 𝓛.H 𝓜 𝓡 wired)
