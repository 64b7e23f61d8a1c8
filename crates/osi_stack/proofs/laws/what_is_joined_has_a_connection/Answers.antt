use Rattle.osi_stack.proofs.each_session.what_has_joined_is_open.{joined_open, joined_few}
use Rattle.osi_stack.proofs.laws.what_is_joined_has_a_connection.Goals as goal

pub returns-clause-opened : goal.returns-clause-opened
returns-clause-opened c = joined_open (record { kept = c.what_is_joined.ensures.kept; held = c.what_is_joined.ensures.held })

pub returns-clause-few : goal.returns-clause-few
returns-clause-few c = joined_few (record { kept = c.what_is_joined.ensures.kept; held = c.what_is_joined.ensures.held })
