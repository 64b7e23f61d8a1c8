use Rattle.osi_blameless.proofs.transport.by_line.a_dc_follows_a_dr.{informed_dc}
use Rattle.osi_blameless.proofs.laws.transport.a_dc_follows_a_dr.Goals as goal

pub returns : goal.returns
returns c = informed_dc
