use Rattle.osi_listing.proofs.octets_side_by_side.{run_both, then_run}
use Rattle.osi_listing.proofs.runs.read_run.Goals as goal

pub returns-then-text-rest-lt-BLOCK-clause-reads : goal.returns-then-text-rest-lt-BLOCK-clause-reads
returns-then-text-rest-lt-BLOCK-clause-reads c =
    then_run (λ s. s.now) c.read_by_ones.result c.args.text.now c.args.octets.now.items c.read_by_fours.new.octets.items
    c.read_by_ones.new.octets.items c.in_ok-rest.rest.now c.in_ok-rest.ensures.reads c.read_by_ones.ensures.reads

pub returns-clause-reads : goal.returns-clause-reads
returns-clause-reads c =
    let text = c.args.text.now in
    let old = c.args.octets.now.items in
    let fours = c.read_by_fours.new.octets.items in
    let blocks = c.read_by_blocks.new.octets.items in
    let more = c.read_by_fours-2.new.octets.items in
    let first = c.in_ok-rest.rest.now in
    let second = c.in_ok-rest-2.rest.now in
    let third = c.in_ok-rest-3.rest.now in
    let so_far = run_both text old fours blocks first second c.in_ok-rest.ensures.reads c.in_ok-rest-2.ensures in
    then_run (λ s. s.now) c.read_by_ones-2.result text old more c.read_by_ones-2.new.octets.items third
    (run_both text old blocks more second third so_far c.in_ok-rest-3.ensures.reads) c.read_by_ones-2.ensures.reads
