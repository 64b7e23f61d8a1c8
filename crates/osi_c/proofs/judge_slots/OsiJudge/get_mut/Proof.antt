-- `get_mut` lends what the pointer points to; after the loan the slot holds its last value.
use Rattle.osi_c.specs.contracts.judge_slots.OsiJudge.get_mut.Key.{name}
use Rattle.osi_c.proofs.a_slot_lends_what_it_holds.{get_mut}
use Rattle.osi_c.proofs.what_each_slot_holds.{of_a_judge}
use Rattle.osi_c.proofs.judge_slots.OsiJudge.get_mut.Statement.{statement}
use Rattle.osi_c.proofs.judge_slots.OsiJudge.get_mut.Code as code

pub get_mut_spec : {M : Type 1} → statement M
get_mut_spec 𝓤 𝓛 𝓜 𝓡 wired = get_mut of_a_judge 𝓛 𝓜 𝓡 name (code.unfolded 𝓤 𝓛.H 𝓜 𝓡 wired)
