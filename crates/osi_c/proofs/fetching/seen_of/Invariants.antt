use Rattle.std.proofs.Common.{◌-◌, ◌≤◌, length}
use Rattle.osi_c.specs.Fetching.{AreDoneBy}
use Rattle.osi_c.specs.Subjects.{told_by}
use Rattle.osi_c.proofs.fetching.seen_of.Given as goal

abbrev pub invariant-connections : goal.invariant-connections
invariant-connections l = (l.fn.seen ≤ l.place) × AreDoneBy l.fn.seen l.place (told_by l.fn.told) l.fn.pasts

abbrev pub decreases-connections : goal.decreases-connections
decreases-connections l = length l.fn.pasts - l.place
