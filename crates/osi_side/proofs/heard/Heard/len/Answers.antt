use Rattle.osi_side.proofs.outlined.equal_tsdus_in_a_row_are_kept_once.{counted_in}
use Rattle.osi_side.proofs.heard.Heard.len.Goals as goal

pub returns : goal.returns
returns c = counted_in c.self.inside.runs.items c.self.inside.count c.args.self.now c.self.invariant.0 c.self.view_is
