use Rattle.osi_side.proofs.Vocabulary.{◌≡◌, ◌-◌, unsaid}
use Rattle.osi_side.proofs.told.the_nearest_of_all_sessions_is_told.{tries}
use Rattle.osi_side.proofs.rules.nearest_on.Given as goal

abbrev pub invariant-takes : goal.invariant-takes
invariant-takes l =
    tries (unsaid l.question) l.heard l.before l.found l.at ≡ tries (unsaid l.question) l.heard l.before l.fn.best l.fn.member

abbrev pub decreases-takes : goal.decreases-takes
decreases-takes l = l.before - l.at.taken
