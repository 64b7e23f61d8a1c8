use Rattle.osi_listing.proofs.Vocabulary.{◌≡◌, ◌++◌, ◌≤◌, ◌-◌, length, take, drop}
use Rattle.std.proofs.Common.{max}
use Rattle.osi_listing.specs.Runs.{greatest, values_of}
use Rattle.osi_listing.proofs.runs.values_of.Given as goal

-- the values that were found, and after them those of the other characters, are those of the block
abbrev pub invariant-characters : goal.invariant-characters
invariant-characters l = record {
  within : l.at ≤ 32;
  sized : length l.each ≡ 32;
  each : take l.at l.each ++ values_of (drop l.at l.characters) ≡ values_of l.characters;
  greatest : max l.greatest (greatest (values_of (drop l.at l.characters))) ≡ greatest (values_of l.characters);
}

abbrev pub decreases-characters : goal.decreases-characters
decreases-characters l = 32 - l.at
