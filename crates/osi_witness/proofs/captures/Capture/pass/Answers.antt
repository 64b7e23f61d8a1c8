use Rattle.osi_witness.proofs.a_piece_adds_to_its_side.{all_same}
use Rattle.osi_witness.proofs.captures.Capture.pass.Goals as goal

pub returns-then-reader-clause-more : goal.returns-then-reader-clause-more
returns-then-reader-clause-more c h = all_same c.args.side c.args.self.now.conversations.items
