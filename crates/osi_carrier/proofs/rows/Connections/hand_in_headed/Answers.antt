use Rattle.osi_carrier.proofs.Vocabulary.{any_standing, link_of, send_error, peer_in, arith, ◌++◌, refl, ap, sym, ◌∙◌, ℕ}
use Rattle.osi_carrier.proofs.Vocabulary.{Connection, ltb-false, length-append}
use Rattle.osi_carrier.proofs.references.the_link_in_a_row.{OpenRow, open_row, closed_row, sought_place, too_long, short}
use Rattle.osi_carrier.proofs.references.rows_in_order.{set_kept}
use Rattle.osi_carrier.proofs.references.the_row_at_a_place.{nowhere, put_same}
use Rattle.osi_carrier.proofs.rows.Connections.hand_in_headed.Goals.{In-Linked}
use Rattle.osi_carrier.proofs.rows.Connections.hand_in_headed.Goals as goal

-- the row of an open connection
row_here : (c : In-Linked) → OpenRow c.self.inside.rises c.args.reference c.in-Some.place c.peer.inside.reference c.in-Linked.peer
    c.args.self.now c.self.inside.rows.items (any_standing c.in-Linked.link)
row_here c =
    open_row _ _ _ _ _ _ _ _ _ _
    (sought_place c.args.reference c.self.inside.rises c.self.inside.rows.items c.args.self.now c.as_slice.result.now
    c.place_in.result c.as_slice.ensures.value c.self.view_is c.self.invariant c.place_in.ensures ∙ c.in-Some.is)
    c.index_mut.ensures.value c.self.view_is c.peer.view_is c.in-Linked.is c.self.invariant

-- ---- each way out

pub returns-in_default-clause-refused : goal.returns-in_default-clause-refused
returns-in_default-clause-refused c =
    let at = sought_place c.args.reference c.self.inside.rises c.self.inside.rows.items c.args.self.now c.as_slice.result.now
    c.place_in.result c.as_slice.ensures.value c.self.view_is c.self.invariant c.place_in.ensures ∙ c.in_default.is in
    sym (ap (λ o. send_error (c.args.head.now ++ c.args.body.now) (link_of o)) (nowhere c.args.reference c.args.self.now at))

pub returns-in_default-phase : goal.returns-in_default-phase
returns-in_default-phase c =
    let row = closed_row c.args.reference c.in-Some.place c.peer.inside.reference c.args.self.now c.self.inside.rows.items _
    c.peer.inside.phase (sought_place c.args.reference c.self.inside.rises c.self.inside.rows.items c.args.self.now c.as_slice.result.now
    c.place_in.result c.as_slice.ensures.value c.self.view_is c.self.invariant c.place_in.ensures ∙ c.in-Some.is)
    c.index_mut.ensures.value c.self.view_is c.peer.view_is c.in_default-phase.not-Linked in
    record {
      «open» = tt;
      rows = tt;
      ok = tt;
      fits = tt;
      refused = sym (ap (send_error (c.args.head.now ++ c.args.body.now)) row.none);
      err = (row.same, refl);
    }

pub returns-then-is_too_long-clause-refused : goal.returns-then-is_too_long-clause-refused
returns-then-is_too_long-clause-refused c = grind (arith, too_long, row_here (goal.at.returns-then-is_too_long-clause-refused c).In-Linked)

pub returns-in_default-send_headed_parts-clause-refused : goal.returns-in_default-send_headed_parts-clause-refused
returns-in_default-send_headed_parts-clause-refused c =
    grind (arith, short, row_here (goal.at.returns-in_default-send_headed_parts-clause-refused c).In-Linked)

pub invariant_of-self-then-send_whole-2 : goal.invariant_of-self-then-send_whole-2
invariant_of-self-then-send_whole-2 c = (row_here (goal.at.invariant_of-self-then-send_whole-2 c).In-Linked).keeps _

pub returns-then-send_whole-clause-open : goal.returns-then-send_whole-clause-open
returns-then-send_whole-clause-open c = ap peer_in (row_here (goal.at.returns-then-send_whole-clause-open c).In-Linked).is

pub returns-then-send_whole-clause-rows : goal.returns-then-send_whole-clause-rows
returns-then-send_whole-clause-rows c = grind (arith, row_here (goal.at.returns-then-send_whole-clause-rows c).In-Linked)

pub returns-then-send_whole-clause-ok : goal.returns-then-send_whole-clause-ok
returns-then-send_whole-clause-ok c = grind (arith, row_here (goal.at.returns-then-send_whole-clause-ok c).In-Linked)

pub invariant_of-self-2 : goal.invariant_of-self-2
invariant_of-self-2 c = (row_here (goal.at.invariant_of-self-2 c).In-Linked).keeps _

pub returns-clause-open : goal.returns-clause-open
returns-clause-open c = ap peer_in (row_here (goal.at.returns-clause-open c).In-Linked).is

pub returns-clause-rows : goal.returns-clause-rows
returns-clause-rows c = grind (arith, row_here (goal.at.returns-clause-rows c).In-Linked)

pub returns-clause-ok : goal.returns-clause-ok
returns-clause-ok c = grind (arith, row_here (goal.at.returns-clause-ok c).In-Linked)

pub invariant_of-self : goal.invariant_of-self
invariant_of-self c =
    set_kept _ _ _ _ _ c.index_mut.ensures.value (ap (λ (x : ℕ × Connection). x.0) c.peer.view_is) c.self.invariant

pub invariant_of-self-then-is_too_long-2 : goal.invariant_of-self-then-is_too_long-2
invariant_of-self-then-is_too_long-2 c = (row_here (goal.at.invariant_of-self-then-is_too_long-2 c).In-Linked).keeps _

pub returns-then-is_too_long-clause-err : goal.returns-then-is_too_long-clause-err
returns-then-is_too_long-clause-err c =
    let row = row_here (goal.at.returns-then-is_too_long-clause-err c).In-Linked in
    (row.puts _ _ _ (ap peer_in row.is) refl ∙ put_same _ _ _ row.is, refl)

pub send_headed_parts-requires-clause-long : goal.send_headed_parts-requires-clause-long
send_headed_parts-requires-clause-long c =
    omega (arith, ltb-false _ _ (sym c.if-is_too_long.ensures), length-append c.args.head.now c.args.body.now)
