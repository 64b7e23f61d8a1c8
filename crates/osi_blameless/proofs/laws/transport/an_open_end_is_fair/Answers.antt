use Rattle.osi_blameless.proofs.transport.lines.an_open_end_is_fair.{open_is_fair}
use Rattle.osi_blameless.proofs.laws.transport.an_open_end_is_fair.Goals as goal

pub returns : goal.returns
returns c = open_is_fair
