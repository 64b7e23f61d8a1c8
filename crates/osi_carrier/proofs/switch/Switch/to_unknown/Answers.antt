use Rattle.osi_carrier.proofs.Vocabulary.{grows, arith}
use Rattle.osi_carrier.proofs.written.what_needs_memory_does_something.{unknown_grows, on_want}
use Rattle.osi_carrier.proofs.switch.Switch.to_unknown.Goals as goal

pub returns-in_err-put_disconnected-in-Dr-clause-needs : goal.returns-in_err-put_disconnected-in-Dr-clause-needs
returns-in_err-put_disconnected-in-Dr-clause-needs c =
    let request = c.in-Dr.request in
    grind (arith, on_want, grows, unknown_grows request.destination request.source request.reason request.user.now c.args.self.now)
