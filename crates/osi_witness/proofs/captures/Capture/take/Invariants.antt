use Rattle.osi_witness.specs.Growing.{AllSayMore}
use Rattle.osi_witness.specs.Whole.{AreUntold}
use Rattle.osi_witness.proofs.captures.Capture.take.Given as goal

abbrev pub invariant-units : goal.invariant-units
invariant-units l = record {
  untold : AreUntold l.fn.self.conversations.items → AreUntold l.self.conversations.items;
  more : AreUntold l.fn.self.conversations.items → AllSayMore l.side l.fn.self.conversations.items l.self.conversations.items;
}
