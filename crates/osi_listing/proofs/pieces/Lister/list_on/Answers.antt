use Rattle.osi_listing.proofs.what_is_written_is_the_listing.{on_none, on_fault}
use Rattle.osi_listing.proofs.pieces.Lister.list_on.Goals as goal

pub returns-in-None-clause-listed : goal.returns-in-None-clause-listed
returns-in-None-clause-listed c = λ going.
    on_none c.args.self.now.stage c.args.self.now.work c.list_piece.new.self c.args.text.now.items c.list_piece.new.text.items
    c.args.piece.now going
    (λ h. rw c.in-None.is at (c.in_ok-list_piece.ensures h))

pub returns-in-Some-clause-listed : goal.returns-in-Some-clause-listed
returns-in-Some-clause-listed c = λ going.
    on_fault c.push_fault.result c.args.self.now.stage c.args.self.now.work c.list_piece.new.self c.args.text.now.items
    c.list_piece.new.text.items
    c.push_fault.new.text.items c.args.piece.now c.in-Some.fault c.at.result c.add_refused.new.self going
    (λ h. rw c.in-Some.is at (c.in_ok-list_piece.ensures h)) c.at.ensures c.add_refused.ensures c.push_fault.ensures
