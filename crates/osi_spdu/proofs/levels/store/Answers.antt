use Rattle.osi_spdu.proofs.Vocabulary.{slots_of, arith, true, false, sym}
use Rattle.osi_spdu.proofs.parameters.parameters_one_after_the_other.{stored_twice, stored_refused, stored_done}
use Rattle.osi_spdu.proofs.levels.store.Goals as goal

pub returns-in-Some-true : goal.returns-in-Some-true
returns-in-Some-true c = grind (arith, stored_twice, slots_of)

pub returns-in-Some-false : goal.returns-in-Some-false
returns-in-Some-false c = grind (arith, stored_done)

pub returns-in-None : goal.returns-in-None
returns-in-None c =
    stored_refused c.args.kind c.args.at c.args.code c.args.value.now c.args.params.now c.fill.new.self c.refused.result
    (sym c.in-None.ensures.value) c.in-None.ensures.cells c.refused.ensures
