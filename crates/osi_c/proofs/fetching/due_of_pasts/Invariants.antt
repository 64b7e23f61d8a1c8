use Rattle.std.proofs.Common.{◌-◌, length}
use Rattle.osi_c.specs.Fetching.{HasNoneByPast}
use Rattle.osi_c.specs.Subjects.{told_by}
use Rattle.osi_c.proofs.each_connection_is_looked_at.{EachBetween}
use Rattle.osi_c.proofs.fetching.due_of_pasts.Given as goal

abbrev pub invariant-connections : goal.invariant-connections
invariant-connections l = EachBetween (HasNoneByPast l.fn.held (told_by l.fn.held.told)) l.fn.pasts l.fn.held.seen l.place

abbrev pub decreases-connections : goal.decreases-connections
decreases-connections l = length l.fn.pasts - l.place
