use Rattle.std.proofs.Common.{length}
use Rattle.osi_tool.proofs.writes_one_after_the_other_append.{IsWriting}
use Rattle.osi_tool.proofs.calls.write_whole.Given as goal

abbrev pub invariant-writes : goal.invariant-writes
invariant-writes g l = IsWriting (g.W.Write.contents l.fn.writer) (g.W.Write.contents l.writer) l.text l.rest

abbrev pub decreases-writes : goal.decreases-writes
decreases-writes g l = length l.rest
