use Rattle.std.proofs.Common.{append_assoc}
use Rattle.osi_listing.proofs.Vocabulary.{arith}
use Rattle.osi_listing.specs.Lines.{unit_line, unit_fields}
use Rattle.osi_listing.proofs.units.push_unit.Goals as goal

pub returns-in_ok-push_reference_field-in-Dr-2 : goal.returns-in_ok-push_reference_field-in-Dr-2
unfolding unit_line unit_fields
returns-in_ok-push_reference_field-in-Dr-2 c = grind (arith, append_assoc)

pub returns-in_ok-push_reference_field-in-Dc-2 : goal.returns-in_ok-push_reference_field-in-Dc-2
unfolding unit_line unit_fields
returns-in_ok-push_reference_field-in-Dc-2 c = grind (arith, append_assoc)

pub returns-in_ok-push_number_field-in-Dt2-2 : goal.returns-in_ok-push_number_field-in-Dt2-2
unfolding unit_line unit_fields
returns-in_ok-push_number_field-in-Dt2-2 c = grind (arith, append_assoc)

pub returns-in_ok-push_reference_field-in-Ak : goal.returns-in_ok-push_reference_field-in-Ak
unfolding unit_line unit_fields
returns-in_ok-push_reference_field-in-Ak c = grind (arith, append_assoc)

pub returns-in_ok-push_reference_field-in-Er : goal.returns-in_ok-push_reference_field-in-Er
unfolding unit_line unit_fields
returns-in_ok-push_reference_field-in-Er c = grind (arith, append_assoc)
