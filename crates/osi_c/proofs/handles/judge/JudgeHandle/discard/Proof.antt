-- `discard` takes a handle that owns nothing.
use Rattle.osi_c.specs.contracts.handles.judge.JudgeHandle.discard.Key.{name}
use Rattle.osi_c.proofs.a_handle_is_a_box.{discard}
use Rattle.osi_c.proofs.what_each_slot_holds.{of_a_judge}
use Rattle.osi_c.proofs.handles.judge.JudgeHandle.discard.Statement.{statement}
use Rattle.osi_c.proofs.handles.judge.JudgeHandle.discard.Code as code

pub discard_spec : {M : Type 1} → statement M
discard_spec 𝓤 𝓛 𝓜 𝓡 wired = discard of_a_judge 𝓛 𝓜 𝓡 name (code.unfolded 𝓤 𝓛.H 𝓜 𝓡 wired)
