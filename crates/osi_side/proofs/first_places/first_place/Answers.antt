use Rattle.osi_side.proofs.Vocabulary.{◌<◌, length, refl, subst, arith, word, said_by, StepsAs, StepsTo}
use Rattle.osi_side.specs.declared.first_places.Step.{Step}
use Rattle.osi_side.proofs.kept.a_session_goes_on_by_one_function.{sender_on, sender_here, sender_stuck, sender_last}
use Rattle.osi_side.proofs.walked.the_first_place_is_enough.{said_first, moved_first, nowhere, at_last, chain, none_explains}
use Rattle.osi_side.proofs.first_places.first_place.Goals as goal

pub takes-preserved : goal.takes-preserved
takes-preserved c =
    let w = word (said_by c.args.unit.now) in
    let within : c.takes.at.taken < length c.args.heard.now = omega (arith, c.takes-test.true, c.requires.passed) in
    let does = subst (λ (s : Step). StepsTo c.args.heard.now w c.args.octets c.takes.at s) c.in-On.is c.in_ok-next.ensures.does in
    let by = subst (λ (s : Step). StepsAs c.args.heard.now w c.args.octets c.takes.at s) c.in-On.is c.in_ok-next.ensures.value in record {
      explains = λ us later x h. chain (c.takes.invariant.explains us later x h)
          (moved_first us c.args.heard.now later w c.args.octets c.args.before c.takes.at c.in-On.on c.requires.steady c.takes-test.true
          (x c.takes.at.taken within) does.0 does.1);
      value = sender_on c.args.heard.now w c.args.octets c.args.before c.takes.at c.in-On.on _ c.takes-test.true by.0 by.1
          c.takes.invariant.value;
    }

pub returns-in-Said-clause-explains : goal.returns-in-Said-clause-explains
returns-in-Said-clause-explains c = grind (arith, chain, said_first)

pub returns-in-Stuck-clause-explains : goal.returns-in-Stuck-clause-explains
returns-in-Stuck-clause-explains c = grind (arith, none_explains, nowhere)

pub returns-clause-explains : goal.returns-clause-explains
returns-clause-explains c = grind (arith, chain, at_last)

pub takes-init : goal.takes-init
takes-init c = record { explains = λ us later x h. (λ e. e, λ e. e); value = refl }

pub returns-in-Said-clause-value : goal.returns-in-Said-clause-value
returns-in-Said-clause-value c =
    let w = word (said_by c.args.unit.now) in
    let by = subst (λ (s : Step). StepsAs c.args.heard.now w c.args.octets c.takes.at s) c.in-Said.is c.in_ok-next.ensures.value in
    sender_here c.args.heard.now w c.args.octets c.args.before c.takes.at c.in-Said.said _ by c.takes.invariant.value

pub returns-in-Stuck-clause-value : goal.returns-in-Stuck-clause-value
returns-in-Stuck-clause-value c =
    let w = word (said_by c.args.unit.now) in
    let by = subst (λ (s : Step). StepsAs c.args.heard.now w c.args.octets c.takes.at s) c.in-Stuck.is c.in_ok-next.ensures.value in
    sender_stuck c.args.heard.now w c.args.octets c.args.before c.takes.at _ c.takes-test.true by.0 by.1 c.takes.invariant.value

pub returns-clause-value : goal.returns-clause-value
returns-clause-value c = grind (arith, sender_last)
