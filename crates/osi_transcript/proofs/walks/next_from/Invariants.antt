use Rattle.osi_transcript.proofs.Vocabulary.{◌≡◌, ◌+◌, ◌<◌, ◌^◌, length, lines_of, numbered}
use Rattle.osi_transcript.proofs.walks.next_from.Given as goal

abbrev pub invariant-lines : goal.invariant-lines
invariant-lines l = (numbered l.number (lines_of l.text) ≡ numbered l.fn.number (lines_of l.fn.text)) ×
    (l.number + length (lines_of l.text) < 2 ^ 40)

abbrev pub decreases-lines : goal.decreases-lines
decreases-lines l = length (lines_of l.text)
