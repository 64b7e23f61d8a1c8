use Rattle.osi_tpdu.proofs.Vocabulary.{◌≤◌, length, arith, rules, err_from_is_err_and}
use Rattle.osi_tpdu.proofs.what_is_left_gives_the_rest.{Reads-more, Reads-cut, Reads-refused, Reads-all}
use Rattle.osi_tpdu.proofs.parameters.read_parameters.Goals as goal

pub returns-in_err-code : goal.returns-in_err-code
returns-in_err-code c =
    let some : 1 ≤ length c.parameters.rest.now = search rules in
    let e = err_from_is_err_and c.from_residual.result c.from_residual.ensures.1 in
    rw (e.1, e.2) (Reads-cut _ _ _ _ _ c.parameters.invariant.reads some c.in_err-code.ensures.gives)

pub returns-in_err-add_parameter : goal.returns-in_err-add_parameter
returns-in_err-add_parameter c =
    let some : 1 ≤ length c.parameters.rest.now = search rules in
    let e = err_from_is_err_and c.from_residual-in_err-add_parameter.result c.from_residual-in_err-add_parameter.ensures.1 in
    rw (e.1, e.2) (Reads-refused _ _ _ _ _ _ c.parameters.invariant.reads some c.in_ok-code.ensures.gives c.in_err-add_parameter.ensures)

pub parameters-preserved : goal.parameters-preserved
parameters-preserved c =
    let some : 1 ≤ length c.parameters.rest.now = search rules in
    record {
      reads = Reads-more _ _ _ _ _ _ c.parameters.invariant.reads some c.in_ok-code.ensures.gives c.in_ok-add_parameter.ensures
          (omega (arith, c.in_ok-code.ensures.lengths));
      room = omega (arith, c.in_ok-code.ensures.lengths);
    }

pub returns : goal.returns
returns c = Reads-all _ _ _ _ c.parameters.invariant.reads (search rules)
