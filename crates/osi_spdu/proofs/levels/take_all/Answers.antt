use Rattle.osi_spdu.proofs.Vocabulary.{eqb-true, eqb-false, err_from_is_err_and, slots_of, ◌≡◌, ◌∙◌, length, sym, arith}
use Rattle.osi_spdu.proofs.parameters.parameters_one_after_the_other.{taking_next, taking_fault, taking_refused, taking_end}
use Rattle.osi_spdu.proofs.levels.take_all.Goals as goal

pub returns-in_err-parameter : goal.returns-in_err-parameter
returns-in_err-parameter g c =
    let p = err_from_is_err_and c.from_residual.result c.from_residual.ensures.1 in
    let some : length c.parameters.rest.now ≡ 0 →
    ⊥ = eqb-false (length c.parameters.rest.now) 0 (sym c.is_empty.ensures ∙ c.parameters-test.true) in
    rw (p.1, p.2) (taking_fault c.parameters.invariant (omega arith) c.in_err-parameter.ensures.value)

pub returns-in_err-take : goal.returns-in_err-take
returns-in_err-take g c =
    let p = err_from_is_err_and c.from_residual-in_err-take.result c.from_residual-in_err-take.ensures.1 in
    rw (p.1, p.2) (taking_refused c.parameters.invariant c.in_ok-parameter.ensures.value c.in_err-take.ensures)

pub parameters-preserved : goal.parameters-preserved
parameters-preserved g c =
    taking_next c.parameters.invariant c.in_ok-parameter.ensures.value c.in_ok-parameter.ensures.whole c.in_ok-take.ensures

pub returns : goal.returns
returns g c = grind (arith, taking_end, slots_of, eqb-true)
