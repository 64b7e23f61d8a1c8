use Rattle.std.proofs.Common.{◌≤◌, length, arith, rules}
use Rattle.osi_tpdu.proofs.what_is_left_gives_the_rest.{Reads-more, Reads-whole, Reads-good, Reads-all}
use Rattle.osi_tpdu.proofs.known_parameters.known_parameters.Goals as goal

pub known_parameter-code-requires : goal.known_parameter-code-requires
known_parameter-code-requires c =
    let some : 1 ≤ length c.parameters.rest.now = search rules in
    Reads-whole _ _ _ _ c.parameters.invariant.reads some c.requires.known

pub put_parameter-requires : goal.put_parameter-requires
put_parameter-requires c =
    let some : 1 ≤ length c.parameters.rest.now = search rules in
    Reads-good _ _ _ _ _ c.parameters.invariant.reads some c.requires.known c.known_parameter-code.ensures.gives

pub parameters-preserved : goal.parameters-preserved
parameters-preserved c =
    let some : 1 ≤ length c.parameters.rest.now = search rules in
    record {
      reads = Reads-more _ _ _ _ _ _ c.parameters.invariant.reads some c.known_parameter-code.ensures.gives c.put_parameter.ensures
          (omega (arith, c.known_parameter-code.ensures.lengths));
      room = omega (arith, c.known_parameter-code.ensures.lengths);
    }

pub returns : goal.returns
returns c = Reads-all _ _ _ _ c.parameters.invariant.reads (search rules)
