use Rattle.osi_side.proofs.Vocabulary.{◌≡◌, ◌-◌, length, IfSome, goes_to, Comes}
use Rattle.osi_side.specs.Still.{LeavesAsItIs}
use Rattle.osi_side.proofs.standings.stands_behind.Given as goal

abbrev pub invariant-takes : goal.invariant-takes
invariant-takes l = record {
  comes : Comes l.heard l.fn.member l.at;
  goes : goes_to l.heard l.at ≡ goes_to l.heard l.fn.member;
  still : IfSome l.still (λ place. LeavesAsItIs l.heard place l.at.standing);
}

abbrev pub decreases-takes : goal.decreases-takes
decreases-takes l = length l.heard - l.at.taken
