use Rattle.osi_side.specs.Sides.{observed}
use Rattle.osi_witness.proofs.the_sessions_that_are_kept_are_linked.{leads_later}
use Rattle.osi_witness.proofs.streams.Stream.add.Goals as goal

pub returns-clause-leads : goal.returns-clause-leads
returns-clause-leads c begin whole leads =
    let s = c.gather.new.self in
    c.in_ok-end_tsdu.ensures.leads begin (c.in_ok-gather.ensures.whole whole)
    (leads_later begin _ _ _ s.limit s.before c.passed_before-self.result (observed s.side) c.passed_before-self.ensures.more
    (c.in_ok-gather.ensures.leads begin whole leads))
