use Rattle.osi_carrier.proofs.Vocabulary.{eqb-true, arith}
use Rattle.osi_carrier.proofs.written.tsdus_that_are_sent_together.{error_of_items, sends_none, no_items}
use Rattle.osi_carrier.proofs.switch.Switch.send_all_open.Goals as goal

pub returns-then-is_empty-clause-ok : goal.returns-then-is_empty-clause-ok
returns-then-is_empty-clause-ok c = grind (arith, eqb-true, sends_none, no_items)

pub returns-then-any_too_long-clause-refused : goal.returns-then-any_too_long-clause-refused
returns-then-any_too_long-clause-refused c = grind (arith, error_of_items)

pub returns-in_default-clause-refused : goal.returns-in_default-clause-refused
returns-in_default-clause-refused c = grind (arith, error_of_items)

pub returns-clause-allowed : goal.returns-clause-allowed
returns-clause-allowed c = grind (arith, error_of_items)
