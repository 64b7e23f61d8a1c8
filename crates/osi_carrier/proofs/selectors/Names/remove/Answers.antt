use Rattle.osi_carrier.proofs.Vocabulary.{place_of, without, TsapIds, None, ap, sym, ◌∙◌}
use Rattle.osi_carrier.proofs.references.the_row_at_a_place.{placed}
use Rattle.osi_carrier.proofs.selectors.Names.remove.Goals as goal

no_ids : TsapIds
no_ids = record { calling = None; called = None }

pub returns : goal.returns
returns c =
    let is = sym c.place_in.ensures ∙ c.in-Some.is in
    let p = placed c.args.reference c.self.inside.rows.items c.in-Some.place (0, no_ids)
    (ap (place_of c.args.reference) (sym c.as_slice.ensures.value) ∙ is) in
    c.remove-dropped.ensures.items ∙ sym p.without_is ∙ ap (without c.args.reference) c.self.view_is
