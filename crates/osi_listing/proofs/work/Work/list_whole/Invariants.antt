use Rattle.osi_listing.proofs.Vocabulary.{length, IsReady, Moves}
use Rattle.osi_listing.proofs.work.Work.list_whole.Given as goal

abbrev pub invariant-packets : goal.invariant-packets
invariant-packets l = IsReady l.fn.self.cutter → Moves l.fn.self l.fn.text.items l.piece l.self l.text.items l.rest × IsReady l.self.cutter

abbrev pub decreases-packets : goal.decreases-packets
decreases-packets l = length l.rest
