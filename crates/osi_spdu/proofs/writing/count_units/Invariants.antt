use Rattle.osi_spdu.proofs.Vocabulary.{◌≤◌, ◌+◌, ◌*◌, ◌^◌, length, units_behind}
use Rattle.osi_spdu.proofs.form.units_are_written_in_order.{IsCountingUnits}
use Rattle.osi_spdu.proofs.parameters.lengths_are_stored_in_order.{IsKeeping}
use Rattle.osi_spdu.proofs.writing.count_units.Given as goal

abbrev pub invariant-units : goal.invariant-units
invariant-units l = record {
  so_far : IsCountingUnits (units_behind l.behind) l.len (units_behind l.fn.behind);
  small : l.len ≤ 2 ^ 63 + 65540 * 16;
  kept : IsKeeping l.lengths l.count (units_behind l.behind) (units_behind l.fn.behind);
}

abbrev pub decreases-units : goal.decreases-units
decreases-units l = length (units_behind l.behind)
