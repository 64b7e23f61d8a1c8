-- `osi_judge_text` stores what `text` returns.
use Rattle.osi_c.specs.Judgements.{last_text}
use Rattle.osi_c.specs.contracts.judgements.text.Key.{name as lends}
use Rattle.osi_c.specs.contracts.judgements.osi_judge_text.Key.{name}
use Rattle.osi_c.proofs.judgements.text.Met.{met}
use Rattle.osi_c.proofs.what_each_slot_holds.{of_a_judge}
use Rattle.osi_c.proofs.what_is_lent_is_stored.{stores}
use Rattle.osi_c.proofs.judgements.osi_judge_text.Statement.{statement}
use Rattle.osi_c.proofs.judgements.osi_judge_text.Code as code

pub osi_judge_text_spec : {M : Type 1} → statement M
osi_judge_text_spec 𝓤 𝓛 𝓜 𝓡 wired =
    stores of_a_judge last_text 𝓛 𝓜 𝓡 lends name (met 𝓤 𝓛 𝓜 𝓡 (code.calls-osi_c::judgements::text 𝓡.env wired))
    (code.unfolded 𝓤 𝓛.H 𝓜 𝓡 wired)
