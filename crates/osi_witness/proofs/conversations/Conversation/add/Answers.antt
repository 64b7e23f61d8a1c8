use Rattle.osi_session.specs.Standing.{seen_called, seen_calling}
use Rattle.osi_witness.proofs.the_sessions_that_are_kept_are_linked.{on_oks}
use Rattle.osi_witness.proofs.conversations.Conversation.add.Goals as goal

pub returns-in-Left-clause-untold : goal.returns-in-Left-clause-untold
returns-in-Left-clause-untold c =
    on_oks c.pass.result _ _ _ _
    (λ own heard followed u.
    let both = followed seen_calling seen_called u.0 u.2 u.3 in (own u.0, heard u.1, both.0, both.1)) c.pass.ensures.own
    c.pass.ensures.heard c.pass.ensures.followed

pub returns-in-Right-clause-untold : goal.returns-in-Right-clause-untold
returns-in-Right-clause-untold c =
    on_oks c.pass-in-Right.result _ _ _ _
    (λ own heard followed u.
    let both = followed seen_called seen_calling u.1 u.3 u.2 in (heard u.0, own u.1, both.1, both.0)) c.pass-in-Right.ensures.own
    c.pass-in-Right.ensures.heard c.pass-in-Right.ensures.followed
