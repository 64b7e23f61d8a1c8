use Rattle.osi_carrier.proofs.Vocabulary.{arith, Cr}
use Rattle.osi_carrier.proofs.writing.put_request.Goals as goal

pub put-requires-clause-fits : goal.put-requires-clause-fits
put-requires-clause-fits c = grind (arith, c.written_form.ensures.room (Cr c.args.unit.now) c.requires.few)
