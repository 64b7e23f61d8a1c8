use Rattle.osi_listing.proofs.Vocabulary.{length}
use Rattle.osi_listing.specs.Runs.{ReadsRun}
use Rattle.osi_listing.proofs.runs.read_by_ones.Given as goal

-- the octets that were read are those in front of the rest
abbrev pub invariant-octets : goal.invariant-octets
invariant-octets l = ReadsRun l.text l.fn.octets.items l.octets.items l.rest

abbrev pub decreases-octets : goal.decreases-octets
decreases-octets l = length l.rest
