-- `empty` holds null, and owns nothing.
use Rattle.osi_c.specs.contracts.handles.judge.JudgeHandle.empty.Key.{name}
use Rattle.osi_c.proofs.a_handle_is_a_box.{empty}
use Rattle.osi_c.proofs.what_each_slot_holds.{of_a_judge}
use Rattle.osi_c.proofs.handles.judge.JudgeHandle.empty.Statement.{statement}
use Rattle.osi_c.proofs.handles.judge.JudgeHandle.empty.Code as code

pub empty_spec : {M : Type 1} → statement M
empty_spec 𝓤 𝓛 𝓜 𝓡 wired = empty of_a_judge 𝓛 𝓜 𝓡 name (code.unfolded 𝓤 𝓛.H 𝓜 𝓡 wired)
