use Rattle.std.proofs.Common.{arith}
use Rattle.osi_carrier.proofs.written.what_needs_memory_does_something.{opens_grows, on_want}
use Rattle.osi_carrier.proofs.switch.Switch.open_with.Goals as goal

pub returns-in_err-reserve-clause-needs : goal.returns-in_err-reserve-clause-needs
returns-in_err-reserve-clause-needs c = search (arith, on_want, opens_grows)
