use Rattle.osi_blameless.proofs.ends.courses.what_was_said_is_explained.{units_came, units_put}
use Rattle.osi_blameless.proofs.laws.ends.what_the_units_of_a_connection_carry.Goals as goal

pub returns-clause-put : goal.returns-clause-put
returns-clause-put c = units_put

pub returns-clause-taken : goal.returns-clause-taken
returns-clause-taken c = units_came
