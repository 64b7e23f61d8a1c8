use Rattle.osi_blameless.proofs.transport.requests.no_request_is_blamed.{request_right}
use Rattle.osi_blameless.proofs.laws.transport.no_request_is_blamed.Goals as goal

pub returns : goal.returns
returns c = request_right
