use Rattle.osi_side.proofs.walked.a_walk_loses_no_explanation.{at_none, at_some}
use Rattle.osi_witness.specs.Steps.{GoesTo, Leading}
use Rattle.osi_witness.specs.declared.trails.Step.{Step}
use Rattle.osi_witness.proofs.a_session_that_goes_on_is_found.{among_at, none_first}
use Rattle.osi_witness.proofs.trails.Goal.first_step.Goals as goal

pub returns-in-Some-clause-some : goal.returns-in-Some-clause-some
returns-in-Some-clause-some c =
    let x = c.member-item.result in (
      among_at c.args.members.now c.members.member-index x c.members-test.true c.member-item.is,
      at_some (λ (t : Step). Leading c.args.self.now x t) c.in_ok-step.field-0 c.in-Some.step c.in-Some.is c.in_ok-step.ensures.some,
    )

pub members-preserved : goal.members-preserved
members-preserved c =
    let g = c.args.self.now in
    let x = c.member-item.result in
    none_first g c.args.members.now c.members.member-index x c.members-test.true c.member-item.is c.members.invariant
    (at_none (GoesTo g x.taken x.standing → ⊥) c.in_ok-step.field-0 c.in_default.not-Some c.in_ok-step.ensures.none)
