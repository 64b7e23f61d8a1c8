use Rattle.osi_carrier.proofs.Vocabulary.{append-nil, any_standing, value, taken, value_at, peer_in, Connection, link_grows, arith, ◌≡◌, ℕ}
use Rattle.osi_carrier.proofs.Vocabulary.{Option, None, Err, is_some, refl, ap, ◌∙◌, rules, tsdu_handed, user_of, with_handed, handing}
use Rattle.osi_class.specs.declared.faults.LinkFault.TheVariants.{OutOfMemory}
use Rattle.osi_carrier.proofs.effects.what_a_link_answers.{refused_by, took_whole, took_link, on_err}
use Rattle.osi_carrier.proofs.references.the_link_in_a_row.{OpenRow, open_row, closed_row, none_known, sought_place}
use Rattle.osi_carrier.proofs.references.rows_in_order.{set_kept}
use Rattle.osi_carrier.proofs.references.the_row_at_a_place.{nowhere}
use Rattle.osi_carrier.proofs.written.what_needs_memory_does_something.{taken_grows, pump_grows, want_taken}
use Rattle.osi_carrier.proofs.rows.Connections.step.Goals.{In-Err, In-Linked, In_default}
use Rattle.osi_carrier.proofs.rows.Connections.step.Goals as goal

-- the row of an open connection
row_here : (c : In-Linked) → OpenRow c.self.inside.rises c.args.reference c.in-Some.place c.row.inside.reference c.in-Linked.peer
    c.args.self.now c.self.inside.rows.items (any_standing c.in-Linked.link)
row_here c =
    open_row _ _ _ _ _ _ _ _ _ _
    (sought_place c.args.reference c.self.inside.rises c.self.inside.rows.items c.args.self.now c.as_slice.result.now
    c.place_in.result c.as_slice.ensures.value c.self.view_is c.self.invariant c.place_in.ensures ∙ c.in-Some.is)
    c.index_mut-row.ensures.value c.self.view_is c.row.view_is c.in-Linked.is c.self.invariant

-- ---- no connection of this reference is open

none_here : (c : In_default) → value_at c.args.reference c.args.self.now ≡ None
none_here c =
    nowhere c.args.reference c.args.self.now
    (sought_place c.args.reference c.self.inside.rises c.self.inside.rows.items c.args.self.now c.as_slice.result.now
    c.place_in.result c.as_slice.ensures.value c.self.view_is c.self.invariant c.place_in.ensures ∙ c.in_default.is)

pub returns-in_default-clause-step : goal.returns-in_default-clause-step
returns-in_default-clause-step c = ap peer_in (none_here (goal.at.returns-in_default-clause-step c).In_default)

pub returns-in_default-clause-rows : goal.returns-in_default-clause-rows
returns-in_default-clause-rows c = grind (arith, none_here (goal.at.returns-in_default-clause-rows c).In_default)

pub returns-in_default-clause-ok : goal.returns-in_default-clause-ok
returns-in_default-clause-ok c = grind (arith, none_here (goal.at.returns-in_default-clause-ok c).In_default)

pub returns-in_default-phase : goal.returns-in_default-phase
returns-in_default-phase c =
    let row = closed_row c.args.reference c.in-Some.place c.row.inside.reference c.args.self.now c.self.inside.rows.items _
    c.row.inside.phase (sought_place c.args.reference c.self.inside.rises c.self.inside.rows.items c.args.self.now c.as_slice.result.now
    c.place_in.result c.as_slice.ensures.value c.self.view_is c.self.invariant c.place_in.ensures ∙ c.in-Some.is)
    c.index_mut-row.ensures.value c.self.view_is c.row.view_is c.in_default-phase.not-Linked in
    record {
      step = row.unknown;
      rows = λ peer known. none_known (peer_in (value_at c.args.reference c.args.self.now)) peer row.unknown known;
      ok = λ peer known. none_known (peer_in (value_at c.args.reference c.args.self.now)) peer row.unknown known;
      none = λ _. (row.same, refl);
      err = tt;
      known = tt;
      needs = λ peer known. tt;
    }

-- ---- the link refuses the unit

pub returns-in-Err-OutOfMemory-clause-known : goal.returns-in-Err-OutOfMemory-clause-known
returns-in-Err-OutOfMemory-clause-known c =
    ap (λ (o : Option Connection). is_some (peer_in o)) (row_here (goal.at.returns-in-Err-OutOfMemory-clause-known c).In-Linked).is

pub returns-in-Err-OutOfMemory-clause-needs : goal.returns-in-Err-OutOfMemory-clause-needs
returns-in-Err-OutOfMemory-clause-needs c =
    let row = row_here (goal.at.returns-in-Err-OutOfMemory-clause-needs c).In-Linked in
    grind (arith, link_grows, taken_grows, want_taken, on_err)

-- it was refused, and nothing has changed
refused_here : (c : In-Err) → (taken (any_standing c.in-Linked.link) (value c.args.unit.now) ≡ Err c.in-Err.fault)
    × (any_standing c.receive.new.self ≡ any_standing c.in-Linked.link)
refused_here c =
    let other : c.in-Err.fault ≡ OutOfMemory → ⊥ = search rules in
    refused_by _ _ _ _ _ _ c.in-Err.is other (on_err c.receive.result c.in-Err.fault c.in-Err.is c.receive.ensures.refused)

pub returns-in-Err-clause-step : goal.returns-in-Err-clause-step
returns-in-Err-clause-step c =
    let at = goal.at.returns-in-Err-clause-step c in
    grind (arith, row_here at.In-Linked, refused_here at.In-Err)

pub returns-in-Err-clause-rows : goal.returns-in-Err-clause-rows
returns-in-Err-clause-rows c =
    let at = goal.at.returns-in-Err-clause-rows c in
    grind (arith, row_here at.In-Linked, refused_here at.In-Err)

pub returns-in-Err-clause-ok : goal.returns-in-Err-clause-ok
returns-in-Err-clause-ok c =
    let at = goal.at.returns-in-Err-clause-ok c in
    grind (arith, append-nil, row_here at.In-Linked, refused_here at.In-Err)

-- ---- the link takes it

pub invariant_of-self-2 : goal.invariant_of-self-2
invariant_of-self-2 c = (row_here (goal.at.invariant_of-self-2 c).In-Linked).keeps _

pub invariant_of-self-in_default-pump_after : goal.invariant_of-self-in_default-pump_after
invariant_of-self-in_default-pump_after c = (row_here (goal.at.invariant_of-self-in_default-pump_after c).In-Linked).keeps _

pub returns-in_default-pump_after-clause-known : goal.returns-in_default-pump_after-clause-known
returns-in_default-pump_after-clause-known c =
    ap (λ (o : Option Connection). is_some (peer_in o)) (row_here (goal.at.returns-in_default-pump_after-clause-known c).In-Linked).is

pub returns-in_default-pump_after-clause-needs : goal.returns-in_default-pump_after-clause-needs
returns-in_default-pump_after-clause-needs c = λ peer known.
    let unit = value c.args.unit.now in
    let new = any_standing c.receive.new.self in
    let tsdu = tsdu_handed (user_of unit) c.in-Ok.handed in
    let row = row_here (goal.at.returns-in_default-pump_after-clause-needs c).In-Linked in
    let needs = pump_grows c.in-Linked.peer (any_standing c.in-Linked.link) (with_handed tsdu new) new tsdu _ c.in-Ok.ensures.taken
    (handing tsdu new c.in-Ok.ensures.none) c.in_default-pump_after.ensures.needs in
    grind arith

pub returns-clause-step : goal.returns-clause-step
returns-clause-step c = grind (arith, row_here (goal.at.returns-clause-step c).In-Linked, took_whole, handing)

pub returns-clause-rows : goal.returns-clause-rows
returns-clause-rows c = grind (arith, row_here (goal.at.returns-clause-rows c).In-Linked, took_link, handing)

pub returns-clause-ok : goal.returns-clause-ok
returns-clause-ok c = grind (arith, row_here (goal.at.returns-clause-ok c).In-Linked)

pub invariant_of-self : goal.invariant_of-self
invariant_of-self c =
    set_kept _ _ _ _ _ c.index_mut-row.ensures.value (ap (λ (x : ℕ × Connection). x.0) c.row.view_is) c.self.invariant

pub invariant_of-self-in-Err : goal.invariant_of-self-in-Err
invariant_of-self-in-Err c = (row_here (goal.at.invariant_of-self-in-Err c).In-Linked).keeps _

pub invariant_of-self-in-Err-OutOfMemory : goal.invariant_of-self-in-Err-OutOfMemory
invariant_of-self-in-Err-OutOfMemory c = (row_here (goal.at.invariant_of-self-in-Err-OutOfMemory c).In-Linked).keeps _
