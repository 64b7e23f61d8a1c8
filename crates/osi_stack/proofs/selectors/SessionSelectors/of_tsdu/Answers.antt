use Rattle.osi_stack.proofs.Vocabulary.{meaning, selectors_of, ap, sym, ◌∙◌, first_of, behind_of, arith}
use Rattle.osi_stack.proofs.opening.the_selectors_of_what_arrives.{read_selectors, bad_selectors}
use Rattle.osi_stack.proofs.selectors.SessionSelectors.of_tsdu.Goals as goal

pub returns-in-Ok : goal.returns-in-Ok
returns-in-Ok c =
    let group = c.in-Ok.group in
    c.of_unit.ensures ∙ ap selectors_of (c.of.ensures ∙ ap meaning c.first.ensures)
    ∙ sym (read_selectors c.args.tsdu.now (first_of group) (behind_of group) c.in-Ok.ensures.exact)

pub returns-in-Err : goal.returns-in-Err
returns-in-Err c = grind (arith, bad_selectors)
