use Rattle.std.proofs.Common.{ap, ◌∙◌, is_some}
use Rattle.osi_carrier.proofs.references.the_row_at_a_place.{live_is}
use Rattle.osi_carrier.proofs.rows.Connections.is_live.Goals as goal

pub returns : goal.returns
returns c = c.is_some.ensures ∙ ap is_some c.find.ensures ∙ live_is c.args.reference c.args.self.now
