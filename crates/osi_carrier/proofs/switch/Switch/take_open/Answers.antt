use Rattle.osi_carrier.proofs.Vocabulary.{value, grows, value_at, peer_in, State, ◌≡◌, true, sym, subst, ◌∙◌}
use Rattle.osi_carrier.proofs.effects.units_one_after_the_other.{one_starved, one_taken}
use Rattle.osi_carrier.proofs.references.the_link_in_a_row.{with_peer}
use Rattle.osi_carrier.proofs.switch.Switch.take_open.Goals as goal

pub returns-in-Ok-clause-acts : goal.returns-in-Ok-clause-acts
returns-in-Ok-clause-acts c = λ yes.
    with_peer (peer_in (value_at c.args.reference c.args.self.now.live)) (sym c.in-Ok.ensures.known ∙ yes)
    (λ peer is. one_taken c.args.self.now _ _ (value c.args.unit.now) c.requires.lasts (c.requires.acts peer is)
    (c.in-Ok.ensures.ok peer is))

pub returns-in-Err-clause-acts : goal.returns-in-Err-clause-acts
returns-in-Err-clause-acts c = λ _.
    with_peer (peer_in (value_at c.args.reference c.args.self.now.live)) c.in-Err.ensures.refused
    (λ peer is. one_starved _ c.hand_to_link.new.self _ _ c.requires.lasts c.in-Err.ensures.err
    (subst (λ (t : State). grows c.args.self.now t ≡ true) (sym (c.requires.acts peer is)) (c.in-Err.ensures.needs peer is))
    c.run_out.ensures)
