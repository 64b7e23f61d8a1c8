use Rattle.osi_listing.proofs.Vocabulary.{◌++◌, ℕ, List, sym, subst, IsPartial, IsFaultOf, empty_partial}
use Rattle.osi_listing.proofs.what_one_more_packet_adds.{held_rest, fault_left}
use Rattle.osi_listing.proofs.work.Work.hold.Goals as goal

pub returns-in-Ok-clause-leaves : goal.returns-in-Ok-clause-leaves
returns-in-Ok-clause-leaves c = λ ready without.
    let taken = c.in-Ok.ensures.taken ready.1 (subst IsPartial (sym ready.0) empty_partial) in
    held_rest c.in-Ok.field-0.whole c.in-Ok.field-0.used c.args.self.now.cutter c.feed.new.self c.args.rest.now ready without taken.0.whole
    taken.1

pub returns-in_ok-of_stream-in-Err-clause-leaves : goal.returns-in_ok-of_stream-in-Err-clause-leaves
returns-in_ok-of_stream-in-Err-clause-leaves c = λ ready without.
    let fault = c.in_ok-of_stream-in-Err.field-0 in
    let taken = c.in-Err.ensures.taken ready.1 (subst IsPartial (sym ready.0) empty_partial) in
    subst (λ (o : List ℕ). (start : ℕ) × IsFaultOf start (o ++ c.args.rest.now) fault) ready.0
    (fault_left c.args.self.now.cutter c.feed.new.self c.args.rest.now c.in-Err.fault fault c.in_ok-of_stream-in-Err.ensures.same
    c.in_ok-of_stream-in-Err.ensures.known taken)
