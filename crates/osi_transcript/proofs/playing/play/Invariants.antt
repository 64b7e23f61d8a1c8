use Rattle.osi_transcript.proofs.Vocabulary.{length, lines_in, IsSmall}
use Rattle.osi_transcript.proofs.each_line_is_played_in_order.{HasPlayed}
use Rattle.osi_transcript.proofs.playing.play.Given as goal

abbrev pub invariant-lines : goal.invariant-lines
invariant-lines l =
    HasPlayed (lines_in l.fn.script) l.fn.pair.ends l.fn.out.items (lines_in l.script) l.pair.ends l.out.items × IsSmall l.script

abbrev pub decreases-lines : goal.decreases-lines
decreases-lines l = length (lines_in l.script)
