use Rattle.osi_side.proofs.Vocabulary.{◌≡◌, drop, false, fold, before_of, is_empty, IsAmong}
use Rattle.osi_side.specs.Foremost.{first_of}
use Rattle.osi_side.proofs.standings.foremost.Given as goal

abbrev pub invariant-members : goal.invariant-members
invariant-members l = record {
  among : is_empty l.fn.members ≡ false → IsAmong l.best l.fn.members;
  value : fold before_of l.best (drop l.member-index l.fn.members) ≡ fold before_of (first_of l.fn.members) l.fn.members;
}
