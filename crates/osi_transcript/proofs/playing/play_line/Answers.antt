use Rattle.osi_transcript.proofs.Vocabulary.{◌≡◌, ◌∙◌, Some, sym, command_by, command_of}
use Rattle.osi_transcript.proofs.each_line_is_played_in_order.{done, failed, event_goes, event_stops}
use Rattle.osi_transcript.proofs.playing.play_line.Goals as goal

pub returns-then-branch : goal.returns-then-branch
returns-then-branch c =
    let read : command_of c.args.line.now ≡ Some (command_by c.in-Some.command) = sym c.in_ok-line.ensures ∙ sym c.in-Some.ensures in
    done c.args.number c.args.line.now (command_by c.in-Some.command) c.in-Some-event_of.event c.args.pair.now.ends
    c.play_event.new.pair.ends c.args.out.now.items c.play_event.new.out.items read c.in-Some-event_of.ensures.some
    (event_goes c.in_ok-play_event.field-0 c.args.number c.in-Some-event_of.event c.args.pair.now.ends c.args.out.now.items
    c.play_event.new.pair.ends c.play_event.new.out.items c.if-branch.true c.in_ok-play_event.ensures)

pub returns : goal.returns
returns c =
    let read : command_of c.args.line.now ≡ Some (command_by c.in-Some.command) = sym c.in_ok-line.ensures ∙ sym c.in-Some.ensures in
    failed c.args.number c.args.line.now (command_by c.in-Some.command) c.in-Some-event_of.event c.args.pair.now.ends
    c.args.out.now.items c.play_event.new.out.items read c.in-Some-event_of.ensures.some
    (event_stops c.in_ok-play_event.field-0 c.args.number c.in-Some-event_of.event c.args.pair.now.ends c.args.out.now.items
    c.play_event.new.pair.ends c.play_event.new.out.items c.if-branch.false c.in_ok-play_event.ensures)
