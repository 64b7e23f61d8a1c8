use Rattle.osi_machine.proofs.tables.what_two_tables_tell.{are_as_tables, is_legal}
use Rattle.osi_machine.proofs.laws.the_tables_are_the_machine.Goals as goal

pub returns-clause-same : goal.returns-clause-same
returns-clause-same c = are_as_tables (assumption) c.an_empty_token_item_changes_nothing.ensures.said

pub returns-clause-legal : goal.returns-clause-legal
returns-clause-legal c = is_legal (assumption) c.an_empty_token_item_changes_nothing.ensures.said
