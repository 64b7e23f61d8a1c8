use Rattle.osi_blameless.proofs.transport.requests.a_refused_request_waits_no_more.{waits_no_more}
use Rattle.osi_blameless.proofs.transport.requests.one_request_waits.{one_waits}
use Rattle.osi_blameless.proofs.laws.transport.one_request_waits.Goals as goal

pub returns-clause-one : goal.returns-clause-one
returns-clause-one c = one_waits

pub returns-clause-refused : goal.returns-clause-refused
returns-clause-refused c = waits_no_more
