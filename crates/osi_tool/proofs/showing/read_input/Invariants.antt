use Rattle.std.proofs.Common.{◌≤◌, ◌-◌, length}
use Rattle.std.specs.Io.KnownBytes.{Consumes}
use Rattle.osi_tool.proofs.showing.read_input.Given as goal

abbrev pub invariant-reads : goal.invariant-reads
invariant-reads g l = (length l.input.items ≤ 16777217)
    × Consumes (g.R.Read.remaining l.fn.reader) (g.R.Read.remaining l.reader) l.input.items

abbrev pub decreases-reads : goal.decreases-reads
decreases-reads g l = 16777217 - length l.input.items
