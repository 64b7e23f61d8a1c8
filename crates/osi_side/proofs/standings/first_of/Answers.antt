use Rattle.std.proofs.Common.{arith}
use Rattle.osi_side.proofs.told.how_a_session_comes_on.{first_among, first_is, first_none}
use Rattle.osi_side.proofs.standings.first_of.Goals as goal

pub returns-in-Some-clause-among : goal.returns-in-Some-clause-among
returns-in-Some-clause-among c = grind (arith, first_among)

pub returns-in-Some-clause-value : goal.returns-in-Some-clause-value
returns-in-Some-clause-value c = grind (arith, first_is)

pub returns-in-None-clause-value : goal.returns-in-None-clause-value
returns-in-None-clause-value c = grind (arith, first_none)
