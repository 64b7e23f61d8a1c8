use Rattle.std.proofs.Common.{arith}
use Rattle.osi_carrier.proofs.references.the_row_at_a_place.{here_is, stepped_rows}
use Rattle.osi_carrier.proofs.references.rows_in_order.{set_kept}
use Rattle.osi_carrier.proofs.rows.Connections.send_all.Goals as goal

pub send_all-requires : goal.send_all-requires
send_all-requires c = grind (arith, here_is)

pub returns-clause-rows : goal.returns-clause-rows
returns-clause-rows c = grind (arith, here_is, stepped_rows)

pub returns-clause-ok : goal.returns-clause-ok
returns-clause-ok c = grind (arith, here_is)

pub invariant_of-self : goal.invariant_of-self
invariant_of-self c =
    set_kept c.self.inside.rises c.self.inside.rows.items c.args.place c.index_mut.result.now c.send_all.new.self c.index_mut.ensures.value
    c.send_all.ensures.reference
    c.self.invariant

pub returns-clause-kept : goal.returns-clause-kept
returns-clause-kept c = grind (arith, here_is)
