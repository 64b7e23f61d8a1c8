use Rattle.osi_listing.proofs.Vocabulary.{◌++◌, List, ℕ, sym, subst, Moves}
use Rattle.osi_listing.proofs.what_one_more_packet_adds.{only_held, then_holds}
use Rattle.osi_listing.proofs.work.Work.list_piece.Goals as goal

pub returns-in-Fault : goal.returns-in-Fault
returns-in-Fault c = λ going.
    let done = rw c.in-Fault.is at (c.in_ok-complete.ensures.completes going) in
    let stream = c.args.self.now.cutter.octets ++ c.args.piece.now in
    (stream, only_held c.args.self.now c.complete.new.self c.args.text.now.items c.complete.new.text.items stream done.0 done.1, done.2)

pub returns-in_ok-left-in-Next : goal.returns-in_ok-left-in-Next
returns-in_ok-left-in-Next c = λ going.
    let done = rw c.in-Next.is at (c.in_ok-complete.ensures.completes going) in
    let whole = c.in_ok-left-in-Next.ensures in
    let rest = c.split_at.result.1.now in
    then_holds c.hold.result c.args.self.now c.complete.new.self c.list_whole.new.self c.hold.new.self c.args.text.now.items
    c.complete.new.text.items
    c.list_whole.new.text.items c.args.piece.now rest c.in_ok-left-in-Next.left.now
    (subst (λ (r : List ℕ). Moves c.args.self.now c.args.text.now.items (c.args.self.now.cutter.octets ++ c.args.piece.now)
    c.complete.new.self c.complete.new.text.items r)
    (sym c.split_at.ensures.back) done.0)
    (whole.moves done.1) c.hold.ensures.same (c.hold.ensures.leaves (whole.ready done.1) (whole.none_left done.1))
