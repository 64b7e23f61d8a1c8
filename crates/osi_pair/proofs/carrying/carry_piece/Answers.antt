use Rattle.osi_pair.proofs.Vocabulary.{map, entry_by, arith}
use Rattle.osi_pair.proofs.carry.users_receive_one_after_the_other.{says_all, notes_then}
use Rattle.osi_pair.proofs.carrying.carry_piece.Goals as goal

pub returns-clause-carries : goal.returns-clause-carries
returns-clause-carries c =
    let told = c.show.ensures.tells in
    record {
      between = c.feed-used.new.to;
      first = told.first;
      feeds = c.feed-used.ensures.feeds;
      taken = c.feed-used.ensures.taken;
      shows = told.shows;
      says = says_all c.args.side (map entry_by c.args.journal.now.items) (map entry_by c.show.new.journal.items)
          (map entry_by c.note_end.new.journal.items)
          told.first c.ended-before.result c.ended.result c.args.to.now.end.carrier.ended c.show.new.stack.end.carrier.ended
          told.says c.note_end.ensures.says c.ended-before.ensures c.ended.ensures;
    }

pub returns-clause-notes : goal.returns-clause-notes
returns-clause-notes c = grind (arith, notes_then)
