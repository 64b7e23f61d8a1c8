use Rattle.osi_listing.proofs.Vocabulary.{[], ◌∷◌}
use Rattle.osi_listing.proofs.octets_side_by_side.{run_more}
use Rattle.osi_listing.proofs.runs.read_by_ones.Goals as goal

pub octets-preserved : goal.octets-preserved
octets-preserved c =
    run_more c.args.text.now c.args.octets.now.items c.octets.octets.items c.push.new.self.items c.octets.rest.now (c.in-Some.octet ∷ [])
    c.in-Some.behind.now c.octets.invariant c.in-Some.ensures.some c.in_ok-push.ensures.items
