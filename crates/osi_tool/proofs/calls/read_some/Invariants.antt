use Rattle.std.specs.Io.KnownBytes.{Keeps}
use Rattle.osi_tool.proofs.calls.read_some.Given as goal

abbrev pub invariant-tries : goal.invariant-tries
invariant-tries g l = Keeps (g.R.Read.remaining l.fn.reader) (g.R.Read.remaining l.reader)
