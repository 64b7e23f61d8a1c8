use Rattle.osi_side.proofs.Vocabulary.{◌∙◌, sym, Ok, said_by_units, behind_of, units_of, outline_by}
use Rattle.osi_spdu.specs.Groups.{first_of}
use Rattle.osi_side.proofs.outlined.an_outline_is_taken_alike.{as_well, more_stay}
use Rattle.osi_side.proofs.outlines.outline_of.Goals as goal

pub returns-in-Some-next : goal.returns-in-Some-next
returns-in-Some-next c =
    let group = c.args.group.now in
    as_well c.copy.result c.args.tsdu.now (outline_by c.args.tsdu.now (Ok (said_by_units (units_of group))))
    (more_stay c.args.tsdu.now (first_of group) _ _ (behind_of group) _ _
    (sym c.behind-behind.ensures ∙ c.in-Some.ensures.steps) c.in-Some-next.ensures.steps)
    c.copy.ensures
