use Rattle.osi_side.proofs.Vocabulary.{◌∷◌, [], ◌++◌, length, units_behind, units_of, said_by, in_effect}
use Rattle.osi_side.proofs.told.the_nearest_of_all_sessions_is_told.{Continues}
use Rattle.osi_side.proofs.rules.break_in.Given as goal

abbrev pub invariant-units : goal.invariant-units
invariant-units l =
    Continues l.heard l.octets l.before l.members (in_effect (units_of l.fn.group)) l.now.items
    (units_behind l.behind ++ said_by l.first ∷ [])

abbrev pub decreases-units : goal.decreases-units
decreases-units l = length (units_behind l.behind)
