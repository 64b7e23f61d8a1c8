use Rattle.std.proofs.Common.{◌-◌, length}
use Rattle.osi_c.specs.Fetching.{HasNoneBy}
use Rattle.osi_c.specs.Subjects.{told_by}
use Rattle.osi_c.proofs.each_connection_is_looked_at.{EachBefore}
use Rattle.osi_c.proofs.fetching.due_of_each.Given as goal

abbrev pub invariant-connections : goal.invariant-connections
invariant-connections l = EachBefore (HasNoneBy l.fn.held (told_by l.fn.held.told)) l.fn.joints l.place

abbrev pub decreases-connections : goal.decreases-connections
decreases-connections l = length l.fn.joints - l.place
