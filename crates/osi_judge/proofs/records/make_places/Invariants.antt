use Rattle.std.proofs.Common.{◌≡◌, ◌-◌, ◌+◌, ℕ, Some, length, slice_get}
use Rattle.osi_judge.proofs.records.make_places.Given as goal

abbrev pub invariant-places : goal.invariant-places
invariant-places l = (n at : ℕ) → slice_get l.fn.places.items n ≡ Some at → slice_get l.places.items n ≡ Some at

abbrev pub decreases-places : goal.decreases-places
decreases-places l = l.fn.number + 1 - length l.places.items
