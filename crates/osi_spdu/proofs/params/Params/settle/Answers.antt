use Rattle.osi_spdu.proofs.Vocabulary.{and_from, is_settled, arith, refl}
use Rattle.osi_spdu.proofs.parameters.a_slot_is_filled.{settled_known, some_there}
use Rattle.osi_spdu.proofs.params.Params.settle.Goals as goal

pub returns-clause-value : goal.returns-clause-value
returns-clause-value c = settled_known c.args.self.now _ refl c.tokens_alone-self.ensures.same c.some_octets-self.ensures.same

pub returns-clause-settled : goal.returns-clause-settled
unfolding is_settled
returns-clause-settled c = grind (arith, and_from, some_there)
