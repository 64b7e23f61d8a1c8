use Rattle.osi_listing.proofs.Vocabulary.{length}
use Rattle.osi_listing.specs.Runs.{ReadsRun}
use Rattle.osi_listing.proofs.runs.read_by_blocks.Given as goal

-- the octets that were read are those in front of the rest
abbrev pub invariant-sixteens : goal.invariant-sixteens
invariant-sixteens l = ReadsRun l.text l.fn.octets.items l.octets.items l.rest

abbrev pub decreases-sixteens : goal.decreases-sixteens
decreases-sixteens l = length l.rest
