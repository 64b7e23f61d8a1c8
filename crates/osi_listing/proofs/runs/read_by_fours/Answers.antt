use Rattle.osi_listing.proofs.Vocabulary.{arith, subst, sym}
use Rattle.osi_listing.specs.Runs.{ReadsRun}
use Rattle.osi_listing.proofs.octets_side_by_side.{run_split}
use Rattle.osi_listing.proofs.runs.read_by_fours.Goals as goal

pub fours-preserved : goal.fours-preserved
fours-preserved c = record {
  turns = omega arith;
  reads = subst (λ behind. ReadsRun c.args.text.now c.args.octets.now.items c.extend_from_slice.new.self.items behind)
      (sym c.split_at.ensures.back)
      (run_split c.args.text.now c.args.octets.now.items c.fours.octets.items c.extend_from_slice.new.self.items c.fours.rest.now
      c.in-Some.four 8 c.fours.invariant.reads c.in-Some.ensures.octets c.in_ok-extend_from_slice.ensures.items);
  shorter = omega (arith, c.split_at.ensures.back_len, c.fours.invariant.shorter);
}
