use Rattle.osi_tpdu.proofs.Vocabulary.{◌≤◌, length, arith, rules, err_from_is_err_and}
use Rattle.osi_tpdu.proofs.what_is_left_gives_the_rest.{Skips-more, Skips-cut, Skips-all}
use Rattle.osi_tpdu.proofs.parameters.skip_parameters.Goals as goal

pub returns-in_err-value : goal.returns-in_err-value
returns-in_err-value c =
    let some : 1 ≤ length c.parameters.rest.now = search rules in
    let e = err_from_is_err_and c.from_residual.result c.from_residual.ensures.1 in
    rw (e.1, e.2) (Skips-cut _ _ _ _ c.parameters.invariant.skips some c.in_err-value.ensures.gives)

pub parameters-preserved : goal.parameters-preserved
parameters-preserved c =
    let some : 1 ≤ length c.parameters.rest.now = search rules in
    record {
      skips = Skips-more _ _ _ _ c.parameters.invariant.skips some c.in_ok-value.ensures.gives
          (omega (arith, c.in_ok-value.ensures.lengths));
      room = omega (arith, c.in_ok-value.ensures.lengths);
    }

pub returns : goal.returns
returns c = Skips-all _ _ _ c.parameters.invariant.skips (search rules)
