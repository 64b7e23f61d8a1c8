use Rattle.osi_carrier.proofs.Vocabulary.{arith, Cc}
use Rattle.osi_carrier.proofs.writing.put_confirm.Goals as goal

pub put-requires-clause-fits : goal.put-requires-clause-fits
put-requires-clause-fits c = grind (arith, c.written_form.ensures.room (Cc c.args.unit.now) c.requires.few)
