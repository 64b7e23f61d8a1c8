use Rattle.std.proofs.Common.{◌-◌, ◌^◌}
use Rattle.osi_tool.proofs.what_is_read_is_heard.{HasHeard, IsReading}
use Rattle.osi_tool.proofs.judging.hear_all.Given as goal

abbrev pub invariant-pieces : goal.invariant-pieces
invariant-pieces g l = record {
  reading : IsReading (g.R.Read.remaining l.fn.reader) (g.R.Read.remaining l.reader) l.turns;
  heard : HasHeard l.fn.hearing l.hearing (g.R.Read.remaining l.fn.reader) (g.R.Read.remaining l.reader);
}

abbrev pub decreases-pieces : goal.decreases-pieces
decreases-pieces g l = 2 ^ 64 - 1 - l.turns
