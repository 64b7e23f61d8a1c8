use Rattle.std.proofs.Common.{arith}
use Rattle.osi_carrier.proofs.written.what_needs_memory_does_something.{leaves_grows, on_want}
use Rattle.osi_carrier.proofs.switch.Switch.leave.Goals as goal

pub returns-in_err-reserve-clause-needs : goal.returns-in_err-reserve-clause-needs
returns-in_err-reserve-clause-needs c = grind (arith, on_want, leaves_grows)

pub returns-in_err-put_disconnected-in-Some-Two-clause-needs : goal.returns-in_err-put_disconnected-in-Some-Two-clause-needs
returns-in_err-put_disconnected-in-Some-Two-clause-needs c = grind (arith, on_want, leaves_grows)
