use Rattle.osi_class.proofs.Vocabulary.{◌≡◌, ◌+◌, map, take, units_needed}
use Rattle.osi_class.proofs.sizes.are_few.Given as goal

abbrev pub invariant-tsdus : goal.invariant-tsdus
invariant-tsdus l = l.left + units_needed l.limit (map (λ v. v.items) (take l.tsdu-index l.tsdus)) ≡ l.units
