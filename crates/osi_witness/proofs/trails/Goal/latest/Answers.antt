use Rattle.std.proofs.Common.{◌≡◌, arith, min}
use Rattle.osi_side.proofs.walked.a_walk_loses_no_explanation.{at_some}
use Rattle.osi_witness.specs.Backwards.{IsNext}
use Rattle.osi_witness.proofs.a_run_is_read_off_backwards.{later_step}
use Rattle.osi_witness.proofs.trails.Goal.latest.Goals as goal

pub takes-preserved : goal.takes-preserved
takes-preserved c =
    let g = c.args.self.now in
    let next : IsNext g c.takes.last c.in-Some.later =
    at_some (IsNext g c.takes.last) c.in_ok-later.field-0 c.in-Some.later c.in-Some.is c.in_ok-later.ensures in
    let count = next.count in
    let top : c.min-top.result ≡ min c.args.most g.before = c.min-top.ensures in
    let lower = c.takes-test.true in
    later_step g c.args.most c.args.step c.takes.last c.in-Some.later c.if-step.false c.takes.invariant next
    (omega (arith, count, top, lower)) (omega (arith, count, top, lower))
