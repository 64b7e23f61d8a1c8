use Rattle.osi_spdu.proofs.Vocabulary.{said_by, units_behind, unit_octets, tsdu_octets, ◌∙◌, ap, arith}
use Rattle.osi_spdu.proofs.form.units_are_written_in_order.{first_len}
use Rattle.osi_spdu.proofs.form.values_in_memory_are_in_their_form.{group_plain}
use Rattle.osi_spdu.proofs.writing.lengths_of.Goals as goal

pub returns-clause-all : goal.returns-clause-all
returns-clause-all c =
    let g = c.args.group.now in
    grind (arith, unit_octets, tsdu_octets, first_len (said_by g.first) (units_behind g.behind) (group_plain g), group_plain g)

pub returns-clause-behind : goal.returns-clause-behind
returns-clause-behind c = grind arith

pub returns-clause-kind : goal.returns-clause-kind
returns-clause-kind c = c.unit_len-counted.ensures.kind ∙ ap (λ u. u.kind) c.first.ensures

pub returns-clause-groups : goal.returns-clause-groups
returns-clause-groups c = grind arith
