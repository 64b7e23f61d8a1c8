use Rattle.osi_listing.proofs.Vocabulary.{subst, sym}
use Rattle.osi_listing.specs.Runs.{ReadsRun}
use Rattle.osi_listing.proofs.octets_side_by_side.{run_split}
use Rattle.osi_listing.proofs.runs.read_by_blocks.Goals as goal

pub sixteens-preserved : goal.sixteens-preserved
sixteens-preserved c =
    subst (λ behind. ReadsRun c.args.text.now c.args.octets.now.items c.extend_from_slice.new.self.items behind)
    (sym c.split_at.ensures.back)
    (run_split c.args.text.now c.args.octets.now.items c.sixteens.octets.items c.extend_from_slice.new.self.items c.sixteens.rest.now
    c.in-Some.sixteen 32 c.sixteens.invariant c.in-Some.ensures.octets c.in_ok-extend_from_slice.ensures.items)
