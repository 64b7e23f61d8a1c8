use Rattle.std.proofs.Common.{◌∙◌, List, ap, subst, sym}
use Rattle.osi_session.specs.Standing.{Seen}
use Rattle.osi_side.specs.Judging.{Observed}
use Rattle.osi_side.specs.Outlines.{outlines}
use Rattle.osi_witness.specs.Linked.{HasHeard, Leads}
use Rattle.osi_witness.specs.Streams.{tsdus_in}
use Rattle.osi_witness.specs.Whole.{IsUntold}
use Rattle.osi_witness.specs.declared.streams.Tsdu.{Tsdu}
use Rattle.osi_witness.proofs.conversations.Conversation.new.Goals as goal

pub returns-clause-untold : goal.returns-clause-untold
returns-clause-untold c =
    let l = c.in_ok-left.left in
    let r = c.in_ok-right.right in
    let left : IsUntold l = (c.in_ok-left.ensures.whole, c.in_ok-left.ensures.empty.said) in
    let right : IsUntold r = (c.in_ok-right.ensures.whole, c.in_ok-right.ensures.empty.said) in
    let left_heard : HasHeard l r =
    ap (λ (w : Observed). w.heard) c.in_ok-left.ensures.side ∙ c.in_ok-caller.ensures.heard.0
    ∙ sym (ap (λ (ts : List Tsdu). outlines (tsdus_in r.octets.items ts)) c.in_ok-right.ensures.empty.tsdus) in
    let right_heard : HasHeard r l =
    ap (λ (w : Observed). w.heard) c.in_ok-right.ensures.side ∙ c.in_ok-called.ensures.heard.0
    ∙ sym (ap (λ (ts : List Tsdu). outlines (tsdus_in l.octets.items ts)) c.in_ok-left.ensures.empty.tsdus) in (
      left,
      right,
      (
        subst (λ (s : Seen). Leads s l) c.calling.ensures
            (c.in_ok-left.ensures.leads (c.in_ok-caller.ensures.begin ∙ sym c.calling.ensures)),
        left_heard,
      ),
      (
        subst (λ (s : Seen). Leads s r) c.called-2.ensures
            (c.in_ok-right.ensures.leads (c.in_ok-called.ensures.begin ∙ sym c.called-2.ensures)),
        right_heard,
      ),
    )
