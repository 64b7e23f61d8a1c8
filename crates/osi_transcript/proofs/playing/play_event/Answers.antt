use Rattle.std.proofs.Common.{arith}
use Rattle.osi_transcript.proofs.the_lines_of_entries_in_order.{event_done, journal_grows}
use Rattle.osi_transcript.proofs.playing.play_event.Goals as goal

pub split_at-requires : goal.split_at-requires
split_at-requires c = grind (arith, journal_grows)

pub returns-in_ok-push_entries-in-Ok : goal.returns-in_ok-push_entries-in-Ok
returns-in_ok-push_entries-in-Ok c =
    event_done c.args.event.now c.args.pair.now.ends c.apply.new.self.ends c.in-Ok.applied c.args.out.now.items c.push_event.new.out.items
    c.push_entries.new.out.items c.journal-before.result.now c.journal.result.now c.split_at.result.1.now
    c.in-Ok.ensures.fits c.in-Ok.ensures.does c.in-Ok.ensures.carried c.if-applied.false
    (c.has_starved.ensures.found c.if-has_starved.false) c.has_starved.ensures.reached
    c.journal-before.ensures.value c.journal.ensures.value c.split_at.ensures.back
    c.in_ok-push_event-in-Ok.ensures c.in_ok-push_entries-in-Ok.ensures
