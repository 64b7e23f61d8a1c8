use Rattle.osi_machine.proofs.tables.data_behind_is_no_fault.{over_calm, behind_is_no_fault}
use Rattle.osi_machine.proofs.laws.data_is_no_fault_behind.Goals as goal

pub returns-clause-under_way : goal.returns-clause-under_way
returns-clause-under_way c = behind_is_no_fault (assumption) c.an_empty_token_item_changes_nothing.ensures.said

pub returns-clause-over_now : goal.returns-clause-over_now
returns-clause-over_now c = over_calm
