use Rattle.osi_side.proofs.Vocabulary.{length, map, word, said_by_units, units_behind, units_of, said_by}
use Rattle.osi_side.proofs.walked.sessions_after_a_unit.{UnitsSoFar}
use Rattle.osi_side.proofs.kept.all_sessions_are_walked_from.{LeadsOn}
use Rattle.osi_side.proofs.telling.behind_units.Given as goal

abbrev pub invariant-units : goal.invariant-units
invariant-units l = record {
  explains : UnitsSoFar l.heard l.octets l.before l.members (said_by_units (units_of l.fn.group)) l.now.items l.restarts (word
      (said_by l.first))
      (map word (units_behind l.behind));
  value : LeadsOn l.heard l.octets l.before l.members (said_by_units (units_of l.fn.group)) l.now.items l.restarts (word (said_by l.first))
      (map word (units_behind l.behind));
}

abbrev pub decreases-units : goal.decreases-units
decreases-units l = length (units_behind l.behind)
