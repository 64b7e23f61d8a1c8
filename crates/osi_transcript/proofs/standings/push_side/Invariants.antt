use Rattle.osi_transcript.proofs.Vocabulary.{◌≡◌, ◌++◌, standing_texts}
use Rattle.osi_transcript.proofs.standings.push_side.Given as goal

abbrev pub invariant-references : goal.invariant-references
invariant-references l = l.out.items ≡ l.fn.out.items ++ standing_texts l.side l.stack.end l.before
