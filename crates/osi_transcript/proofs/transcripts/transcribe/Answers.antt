use Rattle.osi_transcript.proofs.Vocabulary.{◌∙◌, Option, option_map, sym, subst, Local, fresh_ends, command_of, lines_of, numbered}
use Rattle.osi_transcript.proofs.Vocabulary.{StartsWith, lines_in}
use Rattle.osi_transcript.proofs.each_line_is_played_in_order.{transcribed}
use Rattle.osi_transcript.proofs.transcripts.transcribe.Goals as goal

pub returns-clause-told : goal.returns-clause-told
returns-clause-told c =
    transcribed (numbered 1 (lines_of c.args.script.now)) (lines_in c.next_line.new.self) c.in-Some.number c.in-Some.line.now
    (fresh_ends c.in-Some-2.ends.0 c.in-Some-2.ends.1) c.in_ok-lines.lines.items c.play_afresh.new.out.items c.in_ok-status.status
    (sym c.new-script.ensures.value ∙ c.in-Some.ensures.some)
    (subst (λ (o : Option (Local × Local)). StartsWith (command_of c.in-Some.line.now) (option_map (λ e. fresh_ends e.0 e.1) o))
    c.in-Some-2.is c.in_ok-ends.ensures)
    c.in_ok-lines.ensures.items
    c.in_ok-status.ensures.played
