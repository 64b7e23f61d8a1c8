use Rattle.osi_tpdu.proofs.Vocabulary.{arith, pow_mono}
use Rattle.osi_tpdu.proofs.limits.SizeCode.octets.Goals as goal

pub returns-clause-at_least : goal.returns-clause-at_least
returns-clause-at_least c = grind (arith, pow_mono c.args.self.at_least, pow_mono c.args.self.at_most)

pub returns-clause-at_most : goal.returns-clause-at_most
returns-clause-at_most c = grind (arith, pow_mono)
