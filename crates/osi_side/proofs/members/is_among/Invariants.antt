use Rattle.osi_side.proofs.Vocabulary.{◌≡◌, ◌≤◌, false, length, drop, is_among}
use Rattle.osi_side.proofs.members.is_among.Given as goal

abbrev pub invariant-members : goal.invariant-members
invariant-members l = record {
  within : l.at ≤ length l.members;
  above : l.first ≤ l.at;
  none : is_among l.member (drop l.at l.members) ≡ false;
}

abbrev pub decreases-members : goal.decreases-members
decreases-members l = l.at
