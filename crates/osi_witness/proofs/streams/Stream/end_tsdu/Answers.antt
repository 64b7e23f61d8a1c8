use Rattle.osi_witness.proofs.the_sessions_that_are_kept_are_linked.{on_ok}
use Rattle.osi_witness.proofs.streams.Stream.end_tsdu.Goals as goal

pub returns-clause-leads : goal.returns-clause-leads
returns-clause-leads c =
    on_ok c.judge.result _ _
    (λ h begin whole leads. h begin (c.in_ok-push_tsdu.ensures.whole whole) (c.in_ok-push_tsdu.ensures.leads begin whole leads))
    c.judge.ensures.leads
