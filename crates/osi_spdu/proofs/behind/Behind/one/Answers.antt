use Rattle.osi_spdu.proofs.Vocabulary.{◌∷◌, ap, refl, said_by}
use Rattle.osi_spdu.proofs.tsdu.units_after_the_first.{left_none, left_empty, one_stands}
use Rattle.osi_spdu.proofs.behind.Behind.one.Goals as goal

pub invariant_of-result-clause-stands : goal.invariant_of-result-clause-stands
invariant_of-result-clause-stands c = one_stands c.args.unit.kind c.requires

pub invariant_of-result-clause-left : goal.invariant_of-result-clause-left
invariant_of-result-clause-left c = left_none 0 0 _ refl

pub returns-clause-units : goal.returns-clause-units
returns-clause-units c = ap (λ us. said_by c.args.unit ∷ us) (left_empty 0 0 _ refl)
