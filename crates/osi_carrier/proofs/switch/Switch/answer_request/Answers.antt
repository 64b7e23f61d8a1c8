use Rattle.osi_carrier.proofs.references.which_rule_applies_to_a_cr.{has_room, is_answered}
use Rattle.osi_tpdu.specs.View.{request_content}
use Rattle.osi_carrier.proofs.Vocabulary.{nat_tests, false, is_full, ◌≡◌, true, Connect, State, has_peer, denies}
use Rattle.osi_carrier.proofs.Vocabulary.{answers_request, refl, sym, arith}
use Rattle.osi_carrier.proofs.switch.Switch.answer_request.Goals as goal

pub returns-clause-ok : goal.returns-clause-ok
returns-clause-ok c = grind (arith, has_room, is_answered)

taken_peer : (c : Connect) (s : State) → has_peer c.source s.live ≡ true → answers_request c s ≡ denies 131 c.source s
taken_peer c s h = rw h refl

pub returns-then-has_peer-clause-ok : goal.returns-then-has_peer-clause-ok
returns-then-has_peer-clause-ok c =
    rw (taken_peer (request_content c.args.request.now) c.args.self.now (rw (← c.self.view_is) (sym c.if-has_peer.ensures)))
    c.deny.ensures.ok

pub returns-then-has_peer-clause-needs : goal.returns-then-has_peer-clause-needs
returns-then-has_peer-clause-needs c =
    rw (taken_peer (request_content c.args.request.now) c.args.self.now (rw (← c.self.view_is) (sym c.if-has_peer.ensures)))
    c.deny.ensures.needs

full_up : (c : Connect) (s : State) → has_peer c.source s.live ≡ false → is_full s ≡ true → answers_request c s ≡ denies 1 c.source s
full_up c s h f = rw (h, f) refl

full_here : (c : goal.After-deny-then-len-ge-MOST_LIVE) →
    answers_request (request_content c.args.request.now) c.args.self.now ≡ denies 1 c.args.request.now.fields.source c.args.self.now
full_here c =
    let full : is_full c.args.self.now ≡ true = grind (arith, nat_tests) in
    full_up (request_content c.args.request.now) c.args.self.now (rw (← c.self.view_is) (sym c.if-has_peer.ensures)) full

pub returns-then-len-ge-MOST_LIVE-clause-ok : goal.returns-then-len-ge-MOST_LIVE-clause-ok
returns-then-len-ge-MOST_LIVE-clause-ok c = rw (full_here c) c.deny-then-len-ge-MOST_LIVE.ensures.ok

pub returns-then-len-ge-MOST_LIVE-clause-needs : goal.returns-then-len-ge-MOST_LIVE-clause-needs
returns-then-len-ge-MOST_LIVE-clause-needs c = rw (full_here c) c.deny-then-len-ge-MOST_LIVE.ensures.needs
