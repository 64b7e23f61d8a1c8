use Rattle.osi_listing.proofs.Vocabulary.{◌≡◌, ◌++◌, ◌≤◌, ◌*◌, ◌-◌, length, take, drop}
use Rattle.osi_listing.specs.Runs.{pairs_joined}
use Rattle.osi_listing.proofs.runs.pairs_joined.Given as goal

-- the octets that were joined, and after them those of the other values, are those of all
abbrev pub invariant-pairs : goal.invariant-pairs
invariant-pairs l = record {
  within : l.at ≤ 16;
  sized : length l.octets ≡ 16;
  joined : take l.at l.octets ++ pairs_joined (drop (2 * l.at) l.values) ≡ pairs_joined l.values;
}

abbrev pub decreases-pairs : goal.decreases-pairs
decreases-pairs l = 16 - l.at
