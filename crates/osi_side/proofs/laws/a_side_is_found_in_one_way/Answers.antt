use Rattle.osi_side.proofs.told.a_side_strays_at_one_place.{one_judged, one_way}
use Rattle.osi_side.proofs.laws.a_side_is_found_in_one_way.Goals as goal

pub returns-clause-place : goal.returns-clause-place
returns-clause-place c = one_way

pub returns-clause-judged : goal.returns-clause-judged
returns-clause-judged c = one_judged
