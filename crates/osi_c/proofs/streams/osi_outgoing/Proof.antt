-- `osi_outgoing` stores what `lent` returns.
use Rattle.osi_c.specs.Ends.{outgoing}
use Rattle.osi_c.specs.contracts.streams.lent.Key.{name as lends}
use Rattle.osi_c.specs.contracts.streams.osi_outgoing.Key.{name}
use Rattle.osi_c.proofs.streams.lent.Met.{met}
use Rattle.osi_c.proofs.what_each_slot_holds.{of_an_end}
use Rattle.osi_c.proofs.what_is_lent_is_stored.{stores}
use Rattle.osi_c.proofs.streams.osi_outgoing.Statement.{statement}
use Rattle.osi_c.proofs.streams.osi_outgoing.Code as code

pub osi_outgoing_spec : {M : Type 1} → statement M
osi_outgoing_spec 𝓤 𝓛 𝓜 𝓡 wired =
    stores of_an_end outgoing 𝓛 𝓜 𝓡 lends name (met 𝓤 𝓛 𝓜 𝓡 (code.calls-osi_c::streams::lent 𝓡.env wired))
    (code.unfolded 𝓤 𝓛.H 𝓜 𝓡 wired)
