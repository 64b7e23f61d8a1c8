use Rattle.std.proofs.Common.{refl}
use Rattle.osi_spdu.proofs.tsdu.units_after_the_first.{left_none, none_stands}
use Rattle.osi_spdu.proofs.behind.Behind.none.Goals as goal

pub invariant_of-result-clause-stands : goal.invariant_of-result-clause-stands
invariant_of-result-clause-stands c = none_stands

pub invariant_of-result-clause-left : goal.invariant_of-result-clause-left
invariant_of-result-clause-left c = left_none 0 0 _ refl
