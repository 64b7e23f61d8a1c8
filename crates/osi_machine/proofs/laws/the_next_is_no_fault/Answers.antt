use Rattle.osi_machine.proofs.tables.data_behind_is_no_fault.{next_is_no_fault}
use Rattle.osi_machine.proofs.laws.the_next_is_no_fault.Goals as goal

pub returns : goal.returns
returns c = next_is_no_fault (assumption) c.an_empty_token_item_changes_nothing.ensures.said
