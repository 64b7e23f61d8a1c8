use Rattle.osi_machine.proofs.tables.data_behind_is_no_fault.{left_is_over}
use Rattle.osi_machine.proofs.laws.who_is_left_is_over.Goals as goal

pub returns : goal.returns
returns c = left_is_over (assumption) c.an_empty_token_item_changes_nothing.ensures.said
