use Rattle.osi_listing.proofs.Vocabulary.{◌≤◌, ◌-◌, length}
use Rattle.osi_listing.specs.Runs.{ReadsRun}
use Rattle.osi_listing.proofs.runs.read_by_fours.Given as goal

-- the octets that were read are those in front of the rest
abbrev pub invariant-fours : goal.invariant-fours
invariant-fours l = record {
  turns : l.turns ≤ 4;
  reads : ReadsRun l.text l.fn.octets.items l.octets.items l.rest;
  shorter : length l.rest ≤ length l.text;
}

abbrev pub decreases-fours : goal.decreases-fours
decreases-fours l = 4 - l.turns
