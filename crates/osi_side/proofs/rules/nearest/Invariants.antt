use Rattle.osi_side.proofs.Vocabulary.{◌≡◌, drop, fold, unsaid, far}
use Rattle.osi_side.proofs.told.the_nearest_of_all_sessions_is_told.{tries}
use Rattle.osi_side.proofs.rules.nearest.Given as goal

abbrev pub invariant-members : goal.invariant-members
invariant-members l =
    fold (tries (unsaid l.question) l.heard l.before) l.best (drop l.member-index l.members)
    ≡ fold (tries (unsaid l.question) l.heard l.before) (far l.members) l.members
