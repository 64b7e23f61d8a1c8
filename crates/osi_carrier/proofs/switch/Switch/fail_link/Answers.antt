use Rattle.osi_carrier.proofs.Vocabulary.{Two, grows, breaks, State, the_view, arith, ◌≡◌, Some, subst, rules, Faulted}
use Rattle.osi_carrier.proofs.effects.a_refused_unit_changes_nothing.{changed, told, breaks_two}
use Rattle.osi_carrier.proofs.written.what_needs_memory_does_something.{breaks_grows, on_want}
use Rattle.osi_carrier.proofs.switch.Switch.fail_link.Goals as goal

pub returns-in_ok-put_disconnect-in-Some-Two-clause-ok : goal.returns-in_ok-put_disconnect-in-Some-Two-clause-ok
returns-in_ok-put_disconnect-in-Some-Two-clause-ok c =
    let s = the_view c.self.inside in
    let class : c.self.inside.class ≡ Some Two = search rules in
    let then = the_view (record c.self.inside { live = c.set.new.self; outgoing = c.put_disconnect.new.out; events = c.tell.new.events }) in
    subst (λ (x : State). then ≡ (breaks c.args.reference c.args.peer c.args.fault x.class x).state) c.self.view_is
    (breaks_two c.args.reference c.args.peer c.args.fault s then class
    (changed s _ _ _ _ _ _ c.set.ensures c.in_ok-put_disconnect-in-Some-Two.ensures.ok
    (told (Faulted (record { 0 = c.args.reference }) c.args.fault) _ _ _ c.reserve.ensures.items c.tell.ensures)))

pub returns-in_err-reserve-in-Some-Two-clause-needs : goal.returns-in_err-reserve-in-Some-Two-clause-needs
returns-in_err-reserve-in-Some-Two-clause-needs c = grind (arith, rules, on_want, grows, breaks_grows)

pub returns-in_err-put_disconnect-in-Some-Two-clause-needs : goal.returns-in_err-put_disconnect-in-Some-Two-clause-needs
returns-in_err-put_disconnect-in-Some-Two-clause-needs c = grind (arith, rules, on_want, grows, breaks_grows)
