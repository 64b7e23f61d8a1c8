use Rattle.osi_blameless.proofs.transport.lines.an_end_closes_last.{peer_keeps, waits_open}
use Rattle.osi_blameless.proofs.laws.transport.an_end_closes_last.Goals as goal

pub returns-clause-waits : goal.returns-clause-waits
returns-clause-waits c = waits_open

pub returns-clause-peer : goal.returns-clause-peer
returns-clause-peer c = peer_keeps
