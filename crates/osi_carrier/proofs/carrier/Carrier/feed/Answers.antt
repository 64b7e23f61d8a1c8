use Rattle.std.proofs.Common.{arith}
use Rattle.osi_carrier.proofs.carrier.Carrier.feed.Goals as goal

pub returns-clause-feeds : goal.returns-clause-feeds
returns-clause-feeds c = grind arith
