use Rattle.osi_spdu.proofs.Vocabulary.{units_behind, length}
use Rattle.osi_spdu.proofs.form.units_are_written_in_order.{IsPuttingUnits}
use Rattle.osi_spdu.proofs.parameters.lengths_are_stored_in_order.{IsLeft}
use Rattle.osi_spdu.proofs.writing.put_units.Given as goal

abbrev pub invariant-units : goal.invariant-units
invariant-units l = record {
  put : IsPuttingUnits (units_behind l.behind) l.out.items l.out.spare (units_behind l.fn.behind) l.fn.out.items l.fn.out.spare;
  kept : IsLeft l.lengths l.count (units_behind l.behind);
}

abbrev pub decreases-units : goal.decreases-units
decreases-units l = length (units_behind l.behind)
