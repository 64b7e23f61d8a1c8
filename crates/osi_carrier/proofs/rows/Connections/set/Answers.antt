use Rattle.osi_carrier.proofs.Vocabulary.{Connection, arith, ℕ, ap}
use Rattle.osi_carrier.proofs.references.the_row_at_a_place.{put_row}
use Rattle.osi_carrier.proofs.references.rows_in_order.{set_kept}
use Rattle.osi_carrier.proofs.rows.Connections.set.Goals as goal

pub returns : goal.returns
returns c = grind (arith, put_row)

pub invariant_of-self : goal.invariant_of-self
invariant_of-self c =
    set_kept c.self.inside.rises c.self.inside.rows.items c.args.place c.index_mut.result.now c.set.new.self c.index_mut.ensures.value
    (ap (λ (x : ℕ × Connection). x.0) c.set.ensures) c.self.invariant
