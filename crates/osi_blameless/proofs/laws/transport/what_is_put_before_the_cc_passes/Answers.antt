use Rattle.osi_blameless.proofs.transport.lines.what_is_put_before_the_cc_passes.{opened_later}
use Rattle.osi_blameless.proofs.laws.transport.what_is_put_before_the_cc_passes.Goals as goal

pub returns : goal.returns
returns c = opened_later
