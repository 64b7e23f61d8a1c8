use Rattle.osi_spdu.proofs.Vocabulary.{units_behind, category_of, said_by, unit_octets, ◌++◌, ℕ, List, ap, sym, ◌∙◌, append_assoc, arith}
use Rattle.osi_spdu.proofs.form.values_in_memory_are_in_their_form.{behind_formed}
use Rattle.osi_spdu.proofs.parameters.a_group_is_counted_once.{next_two}
use Rattle.osi_spdu.proofs.parameters.lengths_are_stored_in_order.{next_length}
use Rattle.osi_spdu.proofs.form.units_are_written_in_order.{one_octets, one_len, one_fits}
use Rattle.osi_spdu.proofs.writing.put_behind.Goals as goal

pub none-groups-requires : goal.none-groups-requires
none-groups-requires c = grind (arith, category_of, next_two, behind_formed)

pub kept_length-requires : goal.kept_length-requires
kept_length-requires c =
    (next_length {lens = c.args.lengths.now} {count = 0} c.in-Some.ensures (record { lengths = c.requires.lengths })).within

pub put_unit-requires-clause-small : goal.put_unit-requires-clause-small
put_unit-requires-clause-small c = one_fits (units_behind c.args.behind.now) (said_by c.in-Some.unit.now) c.in-Some.ensures c.requires.small

pub put_unit-requires-clause-groups : goal.put_unit-requires-clause-groups
put_unit-requires-clause-groups c = c.none-groups.ensures.value (said_by c.in-Some.unit.now).known

pub put_unit-requires-clause-body : goal.put_unit-requires-clause-body
put_unit-requires-clause-body c =
    c.kept_length.ensures ∙ (next_length {lens = c.args.lengths.now} {count = 0} c.in-Some.ensures
    (record { lengths = c.requires.lengths })).is

pub put_unit-requires-clause-room : goal.put_unit-requires-clause-room
put_unit-requires-clause-room c = grind (arith, one_len)

pub extend_reserved-requires : goal.extend_reserved-requires
extend_reserved-requires c = grind (arith, one_len)

pub returns-clause-spare : goal.returns-clause-spare
returns-clause-spare c = grind (arith, one_len)

pub returns-clause-items : goal.returns-clause-items
returns-clause-items c =
    let u = said_by c.in-Some.unit.now in
    let before = c.args.out.now.items in
    c.extend_reserved.ensures.items ∙ ap (λ (t : List ℕ). c.put_unit.new.out.items ++ t) c.information.ensures
    ∙ ap (λ (t : List ℕ). t ++ u.information) c.put_unit.ensures.items ∙ append_assoc before (unit_octets u) u.information
    ∙ ap (λ (t : List ℕ). before ++ t) (sym (one_octets (units_behind c.args.behind.now) u c.in-Some.ensures))
