use Rattle.osi_carrier.proofs.Vocabulary.{remove, asked, place_of, ap, sym, ◌∙◌}
use Rattle.osi_carrier.proofs.references.the_row_at_a_place.{placed}
use Rattle.osi_carrier.proofs.references.rows_in_order.{without_kept}
use Rattle.osi_carrier.proofs.rows.Connections.remove.Goals as goal

pub returns : goal.returns
returns c =
    let p = placed c.args.reference c.args.self.now c.args.place (0, asked) c.requires in
    c.remove.ensures.items ∙ ap (λ l. remove l c.args.place) c.self.view_is ∙ sym p.without_is

pub invariant_of-self : goal.invariant_of-self
invariant_of-self c =
    without_kept c.self.inside.rises c.args.reference c.self.inside.rows.items c.remove.new.self.items c.args.place (0, asked)
    (ap (place_of c.args.reference) c.self.view_is ∙ c.requires) c.remove.ensures.items c.self.invariant
