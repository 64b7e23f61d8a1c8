use Rattle.std.proofs.Common.{◌≡◌, ◌-◌, ◌+◌, ℕ, length, get_or}
use Rattle.osi_c.specs.Subjects.{neither}
use Rattle.osi_c.proofs.told.make_places.Given as goal

abbrev pub invariant-places : goal.invariant-places
invariant-places l = (n : ℕ) → get_or l.sessions.items n neither ≡ get_or l.fn.sessions.items n neither

abbrev pub decreases-places : goal.decreases-places
decreases-places l = l.fn.number + 1 - length l.sessions.items
