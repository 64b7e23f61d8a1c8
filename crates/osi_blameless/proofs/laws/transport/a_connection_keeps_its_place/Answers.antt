use Rattle.osi_blameless.proofs.transport.names.all_are_judged_unless_one_broke.{place_is}
use Rattle.osi_blameless.proofs.transport.names.what_a_side_knows_stays.{ended_stays, name_is_own, name_stays}
use Rattle.osi_blameless.proofs.laws.transport.a_connection_keeps_its_place.Goals as goal

pub returns-clause-stays : goal.returns-clause-stays
returns-clause-stays c = name_stays

pub returns-clause-closed : goal.returns-clause-closed
returns-clause-closed c = ended_stays

pub returns-clause-place : goal.returns-clause-place
returns-clause-place c = place_is

pub returns-clause-own : goal.returns-clause-own
returns-clause-own c = name_is_own
