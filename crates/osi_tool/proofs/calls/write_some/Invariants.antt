use Rattle.std.specs.Io.KnownBytes.{Keeps}
use Rattle.osi_tool.proofs.calls.write_some.Given as goal

abbrev pub invariant-tries : goal.invariant-tries
invariant-tries g l = Keeps (g.W.Write.contents l.fn.writer) (g.W.Write.contents l.writer)
