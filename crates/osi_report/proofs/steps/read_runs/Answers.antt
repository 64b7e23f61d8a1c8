use Rattle.osi_report.proofs.what_is_read_run_by_run.{ends_next, passes_next, run_ends, run_passes}
use Rattle.osi_report.proofs.steps.read_runs.Goals as goal

pub blanks-preserved : goal.blanks-preserved
blanks-preserved c =
    let text = c.args.text.now in
    let old = c.args.octets.now.items in
    let mid = c.blanks.octets.items in
    let new = c.read_run-in-Some.new.octets.items in
    let rest = c.blanks.rest.now in
    let behind = c.in-Some.behind.now in
    let last = c.in_ok-rest-2.rest.now in
    let reads = c.in_ok-rest-2.ensures.reads in
    record {
      passes = passes_next text old mid new rest behind last c.blanks.invariant.passes c.in-Some.ensures.same
          (run_passes behind mid new last reads);
      ends = ends_next text rest last c.blanks.invariant.ends
          (ends_next rest behind last c.in-Some.ensures.ends (run_ends behind mid new last reads));
    }
