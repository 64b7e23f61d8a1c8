use Rattle.osi_carrier.proofs.Vocabulary.{value, taken, grows, value_at, place_of, link_in, peer_in, StepsTo, the_view, units_after}
use Rattle.osi_carrier.proofs.Vocabulary.{packets, Some, Err, arith, ◌≡◌, refl, subst, option_to_list, Step}
use Rattle.osi_carrier.proofs.effects.a_refused_unit_changes_nothing.{broke_rows, broke_octets, broke_taking, took_taking, undone, changed}
use Rattle.osi_carrier.proofs.references.the_link_in_a_row.{with_peer}
use Rattle.osi_carrier.proofs.written.what_needs_memory_does_something.{taking_grows, took_grows, broke_grows, on_want}
use Rattle.osi_carrier.proofs.switch.Switch.hand_to_link.Goals.{In-Broke}
use Rattle.osi_carrier.proofs.switch.Switch.hand_to_link.Goals as goal

pub returns-in_err-step-clause-needs : goal.returns-in_err-step-clause-needs
returns-in_err-step-clause-needs c = grind (arith, on_want, grows, taking_grows)

-- ---- the link takes the unit

-- it is a whole TSDU, and lent
pub returns-in-Took-Whole-clause-ok : goal.returns-in-Took-Whole-clause-ok
returns-in-Took-Whole-clause-ok c = λ peer known.
    grind (arith, took_taking, changed)

pub returns-in-Ok-clause-ok : goal.returns-in-Ok-clause-ok
returns-in-Ok-clause-ok c = λ peer known.
    grind (arith, took_taking, option_to_list, changed)

pub returns-in_default-clause-err : goal.returns-in_default-clause-err
returns-in_default-clause-err c =
    let s = the_view c.self.inside in
    let live = c.self.inside.live in
    let t = taken (link_in (value_at c.args.reference live)) (value c.args.unit.now) in
    let took = subst (λ (x : Step). StepsTo x c.args.reference (value c.args.unit.now) live t) c.in-Took.is c.in_ok-step.ensures.step in
    with_peer (peer_in (value_at c.args.reference live)) took.0
    (λ peer opened. grind (arith, undone s.outgoing (packets (units_after peer t)), c.in_ok-step.ensures.ok peer opened))

pub returns-in_default-clause-needs : goal.returns-in_default-clause-needs
returns-in_default-clause-needs c = λ peer known.
    grind (arith, grows, took_grows, option_to_list)

-- ---- the link refuses it

-- nothing has changed yet
refused_here : (c : In-Broke) →
    (place_of c.args.reference c.step.new.self ≡ Some c.in-Broke.place)
    × (peer_in (value_at c.args.reference c.args.self.now.live) ≡ Some c.in-Broke.peer)
    × (taken (link_in (value_at c.args.reference c.args.self.now.live)) (value c.args.unit.now) ≡ Err c.in-Broke.fault)
    × (the_view (record c.self.inside { live = c.step.new.self; outgoing = c.step.new.out }) ≡ c.args.self.now)
refused_here c =
    let s = the_view c.self.inside in
    let live = c.self.inside.live in
    let t = taken (link_in (value_at c.args.reference live)) (value c.args.unit.now) in
    let broke = subst (λ (x : Step). StepsTo x c.args.reference (value c.args.unit.now) live t) c.in-Broke.is c.in_ok-step.ensures.step in
    let rows = broke_rows _ _ live c.step.new.self t _ broke.2 broke.1 (c.in_ok-step.ensures.rows c.in-Broke.peer broke.1) in
    let octets = broke_octets _ c.self.inside.outgoing.items c.step.new.out.items t _ broke.2
    (c.in_ok-step.ensures.ok c.in-Broke.peer broke.1) in
    let same = changed s _ _ _ _ s.events s.events rows octets refl in
    grind arith

pub fail_link-requires : goal.fail_link-requires
fail_link-requires c = (refused_here (goal.at.fail_link-requires c).In-Broke).0

pub returns-in_err-fail_link-in-Broke-clause-err : goal.returns-in_err-fail_link-in-Broke-clause-err
returns-in_err-fail_link-in-Broke-clause-err c =
    grind (arith, on_want, refused_here (goal.at.returns-in_err-fail_link-in-Broke-clause-err c).In-Broke)

pub returns-in_err-fail_link-in-Broke-clause-needs : goal.returns-in_err-fail_link-in-Broke-clause-needs
returns-in_err-fail_link-in-Broke-clause-needs c =
    grind (arith, on_want, broke_grows, refused_here (goal.at.returns-in_err-fail_link-in-Broke-clause-needs c).In-Broke)

pub returns-in_ok-fail_link-in-Broke-clause-ok : goal.returns-in_ok-fail_link-in-Broke-clause-ok
returns-in_ok-fail_link-in-Broke-clause-ok c =
    grind (arith, broke_taking, refused_here (goal.at.returns-in_ok-fail_link-in-Broke-clause-ok c).In-Broke)
