use Rattle.osi_carrier.proofs.Vocabulary.{cow_slice_items, any_standing, Standing, with_tsdu, pumped, link_in, arith, ◌≡◌, ap, sym, ◌∙◌}
use Rattle.osi_carrier.proofs.references.the_link_in_a_row.{OpenRow, open_row, linked_phase, ok_then}
use Rattle.osi_carrier.proofs.references.the_row_at_a_place.{here_is}
use Rattle.osi_carrier.proofs.rows.Connections.send.Goals.{In-Linked}
use Rattle.osi_carrier.proofs.rows.Connections.send.Goals as goal

-- the row of the connection
row_here : (c : In-Linked) → OpenRow c.self.inside.rises c.args.reference c.args.place c.link.inside.reference c.in-Linked.field-0
    c.args.self.now c.self.inside.rows.items (any_standing c.in-Linked.link)
row_here c =
    open_row _ _ _ _ _ _ _ _ _ _ c.requires.place c.index_mut.ensures.value c.self.view_is c.link.view_is c.in-Linked.is c.self.invariant

pub unreachable-requires : goal.unreachable-requires
unreachable-requires c = grind (arith, here_is, linked_phase)

pub send_parts-requires : goal.send_parts-requires
send_parts-requires c = grind arith

pub invariant_of-self-then-send_whole-2 : goal.invariant_of-self-then-send_whole-2
invariant_of-self-then-send_whole-2 c = (row_here (goal.at.invariant_of-self-then-send_whole-2 c).In-Linked).keeps _

pub invariant_of-self-2 : goal.invariant_of-self-2
invariant_of-self-2 c = (row_here (goal.at.invariant_of-self-2 c).In-Linked).keeps _

pub returns-then-send_whole-clause-rows : goal.returns-then-send_whole-clause-rows
returns-then-send_whole-clause-rows c =
    let row = row_here (goal.at.returns-then-send_whole-clause-rows c).In-Linked in
    row.puts c.args.peer (any_standing c.send_whole.new.link) _ c.requires.open (grind (arith, ap link_in row.is))

pub returns-then-send_whole-clause-ok : goal.returns-then-send_whole-clause-ok
returns-then-send_whole-clause-ok c = grind (arith, row_here (goal.at.returns-then-send_whole-clause-ok c).In-Linked)

pub returns-clause-rows : goal.returns-clause-rows
returns-clause-rows c =
    let row = row_here (goal.at.returns-clause-rows c).In-Linked in
    let link = (c.send_whole.ensures.none c.if-send_whole.false).0 ∙ sym (ap link_in row.is) in
    ok_then c.send_parts.result
    (λ (e : any_standing c.send_parts.new.link ≡ pumped (with_tsdu (any_standing c.send_whole.new.link) (cow_slice_items c.args.tsdu))).
    row.puts c.args.peer (any_standing c.send_parts.new.link) _ c.requires.open
    (e ∙ ap (λ (s : Standing). pumped (with_tsdu s (cow_slice_items c.args.tsdu))) link))
    c.send_parts.ensures.link

pub returns-clause-ok : goal.returns-clause-ok
returns-clause-ok c = grind (arith, row_here (goal.at.returns-clause-ok c).In-Linked)

pub returns-clause-kept : goal.returns-clause-kept
returns-clause-kept c = grind (arith, row_here (goal.at.returns-clause-kept c).In-Linked)
