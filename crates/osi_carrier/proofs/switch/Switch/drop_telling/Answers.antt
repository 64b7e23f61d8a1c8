use Rattle.std.proofs.Common.{arith}
use Rattle.osi_carrier.proofs.written.what_needs_memory_does_something.{tells_drops_grows, on_want}
use Rattle.osi_carrier.proofs.switch.Switch.drop_telling.Goals as goal

pub returns-in_err-reserve-clause-needs : goal.returns-in_err-reserve-clause-needs
returns-in_err-reserve-clause-needs c = grind (arith, on_want, tells_drops_grows)
