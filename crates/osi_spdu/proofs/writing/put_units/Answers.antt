use Rattle.std.proofs.Common.{◌≡◌, ◌+◌, ◌++◌, ◌∙◌, ℕ, List, length, ap, sym, subst, arith}
use Rattle.osi_spdu.proofs.Vocabulary.{units_behind, category_of, said_by, unit_octets}
use Rattle.osi_spdu.proofs.form.units_are_written_in_order.{IsPuttingUnits, putting_start, puts_next, putting_end}
use Rattle.osi_spdu.proofs.form.values_in_memory_are_in_their_form.{behind_formed}
use Rattle.osi_spdu.proofs.parameters.a_group_is_counted_once.{next_two}
use Rattle.osi_spdu.proofs.parameters.lengths_are_stored_in_order.{next_length}
use Rattle.osi_spdu.proofs.writing.put_units.Goals as goal

pub units-init : goal.units-init
units-init c = record { put = grind (arith, putting_start); kept = record { lengths = c.requires.lengths } }

pub put_unit-requires-clause-small : goal.put_unit-requires-clause-small
put_unit-requires-clause-small c = grind (arith, puts_next)

pub none-groups-requires : goal.none-groups-requires
none-groups-requires c = grind (arith, category_of, next_two, behind_formed)

pub put_unit-requires-clause-groups : goal.put_unit-requires-clause-groups
put_unit-requires-clause-groups c = c.none-groups.ensures.value (said_by c.in-Some.unit).known

pub kept_length-requires : goal.kept_length-requires
kept_length-requires c = (next_length c.in-Some.ensures.steps c.units.invariant.kept).within

pub put_unit-requires-clause-body : goal.put_unit-requires-clause-body
put_unit-requires-clause-body c = c.kept_length.ensures ∙ (next_length c.in-Some.ensures.steps c.units.invariant.kept).is

pub overflow_add-count : goal.overflow_add-count
overflow_add-count c =
    let w = (next_length c.in-Some.ensures.steps c.units.invariant.kept).within in
    omega (arith, w, c.requires.kept)

pub put_unit-requires-clause-room : goal.put_unit-requires-clause-room
put_unit-requires-clause-room c =
    let n = puts_next c.in-Some.ensures.steps c.units.invariant.put in
    omega (arith, n.enough)

pub extend_reserved-requires : goal.extend_reserved-requires
extend_reserved-requires c =
    let n = puts_next c.in-Some.ensures.steps c.units.invariant.put in
    let info = ap length c.information.ensures in
    omega (arith, n.enough, c.put_unit.ensures.spare)

pub units-preserved : goal.units-preserved
units-preserved c =
    let u = said_by c.in-Some.unit in
    let n = puts_next c.in-Some.ensures.steps c.units.invariant.put in
    let info = ap length c.information.ensures in
    let left : c.extend_reserved.new.self.spare + (length (unit_octets u) + length u.information) ≡ c.units.out.spare =
    omega (arith, c.put_unit.ensures.spare, c.extend_reserved.ensures.spare) in
    let items : c.extend_reserved.new.self.items ≡ (c.units.out.items ++ unit_octets u) ++ u.information =
    c.extend_reserved.ensures.items ∙ ap (λ (t : List ℕ). c.put_unit.new.out.items ++ t) c.information.ensures ∙
    ap (λ (t : List ℕ). t ++ u.information) c.put_unit.ensures.items in
    record {
      put = subst (λ (t : List ℕ). IsPuttingUnits (units_behind c.next.new.self) t c.extend_reserved.new.self.spare
          (units_behind c.args.behind) c.args.out.now.items c.args.out.now.spare) (sym items)
          (n.next c.extend_reserved.new.self.spare left);
      kept = (next_length c.in-Some.ensures.steps c.units.invariant.kept).rest;
    }

pub returns-clause-items : goal.returns-clause-items
returns-clause-items c = (putting_end c.in_default.ensures.steps.0 c.units.invariant.put).0

pub returns-clause-spare : goal.returns-clause-spare
returns-clause-spare c = (putting_end c.in_default.ensures.steps.0 c.units.invariant.put).1
