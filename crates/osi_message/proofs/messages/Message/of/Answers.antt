use Rattle.std.proofs.Common.{◌∙◌}
use Rattle.osi_message.specs.Reading.{meaning, meaning_by}
use Rattle.osi_message.proofs.messages.Message.of.Goals as goal

pub returns : goal.returns
unfolding meaning
returns c = c.of_kind.ensures ∙ (λ i. meaning_by (c.kind.ensures i) (c.params.ensures.known i) (c.information.ensures i))
