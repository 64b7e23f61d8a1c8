use Rattle.std.proofs.Common.{arith}
use Rattle.osi_witness.proofs.captures.Capture.new.Goals as goal

pub returns : goal.returns
returns c =
    let items = c.new-2.ensures.items in
    let left = c.new-4.ensures in
    let right = c.new-5.ensures in
    record {
      conversations = items;
      first = let l = left.stop in let r = right.stop in grind arith;
      left = left.offset;
      right = right.offset;
    }
