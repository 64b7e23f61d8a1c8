use Rattle.std.proofs.Common.{arith}
use Rattle.osi_carrier.proofs.written.what_needs_memory_does_something.{denies_grows, on_want}
use Rattle.osi_carrier.proofs.switch.Switch.deny.Goals as goal

pub returns-clause-needs : goal.returns-clause-needs
returns-clause-needs c = search (arith, on_want, denies_grows)
