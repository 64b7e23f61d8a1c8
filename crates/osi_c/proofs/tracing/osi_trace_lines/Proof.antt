-- `osi_trace_lines` stores what `lines` returns.
use Rattle.osi_c.specs.Tracing.{last_lines}
use Rattle.osi_c.specs.contracts.tracing.lines.Key.{name as lends}
use Rattle.osi_c.specs.contracts.tracing.osi_trace_lines.Key.{name}
use Rattle.osi_c.proofs.tracing.lines.Met.{met}
use Rattle.osi_c.proofs.what_each_slot_holds.{of_an_end}
use Rattle.osi_c.proofs.what_is_lent_is_stored.{stores}
use Rattle.osi_c.proofs.tracing.osi_trace_lines.Statement.{statement}
use Rattle.osi_c.proofs.tracing.osi_trace_lines.Code as code

pub osi_trace_lines_spec : {M : Type 1} → statement M
osi_trace_lines_spec 𝓤 𝓛 𝓜 𝓡 wired =
    stores of_an_end last_lines 𝓛 𝓜 𝓡 lends name (met 𝓤 𝓛 𝓜 𝓡 (code.calls-osi_c::tracing::lines 𝓡.env wired))
    (code.unfolded 𝓤 𝓛.H 𝓜 𝓡 wired)
