-- `into_loose` puts the pointer next to the allocator of the box.
use Rattle.osi_c.specs.contracts.handles.judge.JudgeHandle.into_loose.Key.{name}
use Rattle.osi_c.proofs.a_handle_is_a_box.{into_loose}
use Rattle.osi_c.proofs.what_each_slot_holds.{of_a_judge}
use Rattle.osi_c.proofs.handles.judge.JudgeHandle.into_loose.Statement.{statement}
use Rattle.osi_c.proofs.handles.judge.JudgeHandle.into_loose.Code as code

pub into_loose_spec : {M : Type 1} → statement M
into_loose_spec 𝓤 𝓛 𝓜 𝓡 wired = into_loose of_a_judge 𝓛 𝓜 𝓡 name (code.unfolded 𝓤 𝓛.H 𝓜 𝓡 wired)
