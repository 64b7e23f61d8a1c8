use Rattle.std.proofs.Common.{arith}
use Rattle.osi_side.proofs.Vocabulary.{◌≡◌, ◌+◌, ◌↔◌, Option, Some, subst, word, said_by, Asker, way_of, AskerIsAsked, StillOpen}
use Rattle.osi_side.proofs.Vocabulary.{the_remark}
use Rattle.osi_side.proofs.walked.a_walk_loses_no_explanation.{at_some}
use Rattle.osi_side.proofs.walked.a_walk_to_a_restart_keeps_two.{both, steps_last}
use Rattle.osi_side.proofs.kept.a_walk_to_a_restart_is_one_function.{StepsAs, walk_on, walk_stops, walk_ends}
use Rattle.osi_side.proofs.restarts.walk_with.Goals as goal

pub takes-preserved : goal.takes-preserved
takes-preserved c =
    let w = word (said_by c.args.asking.now.restart) in
    let m = the_remark w c.args.octets c.args.before in
    let way = way_of c.args.asking.now c.args.octets in record {
      explains = λ us later x h. both (c.takes.invariant.explains us later x h)
          (subst (λ (r : Option Asker). StillOpen us later m c.takes.next.items (Some c.takes.asker)
          ↔ StillOpen us later m c.step.new.next.items r)
          c.in-Some.is (c.in_ok-on.ensures.gives c.args.before c.takes-test.true us later x h));
      asked = subst (λ (r : Option Asker). AskerIsAsked w (word (said_by c.args.asking.now.shown)) c.args.octets r) c.in-Some.is
          c.in_ok-on.ensures.asked;
      value = walk_on c.args.heard.now way c.args.before c.takes.next.items c.step.new.next.items _ c.takes.asker c.in-Some.on
          c.takes-test.true (at_some (λ (a : Asker). a.at.taken ≡ c.takes.asker.at.taken + 1) c.in_ok-on.field-0 c.in-Some.on c.in-Some.is
          c.in_ok-on.ensures.moved)
          (subst (λ (r : Option Asker). StepsAs c.args.heard.now way c.takes.next.items c.step.new.next.items c.takes.asker r) c.in-Some.is
          c.in_ok-on.ensures.value) c.takes.invariant.value;
    }

pub returns-in-None-clause-explains : goal.returns-in-None-clause-explains
returns-in-None-clause-explains c = grind (arith, both)

pub returns-in-None-clause-value : goal.returns-in-None-clause-value
returns-in-None-clause-value c =
    let way = way_of c.args.asking.now c.args.octets in
    walk_stops c.args.heard.now way c.args.before c.takes.next.items c.step.new.next.items _ c.takes.asker c.takes-test.true
    (subst (λ (r : Option Asker). StepsAs c.args.heard.now way c.takes.next.items c.step.new.next.items c.takes.asker r) c.in-None.is
    c.in_ok-on.ensures.value) c.takes.invariant.value

pub returns-clause-explains : goal.returns-clause-explains
returns-clause-explains c = λ us later x h.
    both (c.takes.invariant.explains us later x h)
    (steps_last us later (word (said_by c.args.asking.now.restart)) c.args.octets c.args.before c.takes.asker c.takes.next.items
    c.ask.new.next.items c.keep.new.next.items c.in_ok-asked.asked
    c.takes-test.false (c.in_ok-asked.ensures.gives us later) (c.in_ok-keep.ensures.explains us later))

pub returns-clause-value : goal.returns-clause-value
returns-clause-value c =
    walk_ends c.args.heard.now (way_of c.args.asking.now c.args.octets) c.args.before c.takes.next.items c.ask.new.next.items
    c.keep.new.next.items _ c.takes.asker c.in_ok-asked.asked c.takes-test.false c.in_ok-asked.ensures.value c.in_ok-keep.ensures.value
    c.takes.invariant.value
