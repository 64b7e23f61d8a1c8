use Rattle.osi_side.specs.Nearest.{unsaid}
use Rattle.osi_side.proofs.told.the_nearest_of_all_sessions_is_told.{tries, tries_next, tries_stop}
use Rattle.osi_side.proofs.rules.nearest_on.Goals as goal

pub takes-preserved : goal.takes-preserved
takes-preserved c =
    let u = unsaid c.args.question.now in
    let all = tries u c.args.heard.now c.args.before c.args.best.now c.args.member in
    tries_next u c.args.heard.now c.args.before c.takes.found c.nearer-found.result all c.takes.at c.in-Goes.next c.in_ok-next.field-0
    c.takes-test.true
    c.in-Goes.is c.in_ok-next.ensures c.nearer-found.ensures c.takes.invariant

pub returns-in-Stops : goal.returns-in-Stops
returns-in-Stops c =
    let u = unsaid c.args.question.now in
    let all = tries u c.args.heard.now c.args.before c.args.best.now c.args.member in
    tries_stop u c.args.heard.now c.args.before c.takes.found c.nearer-found.result all c.takes.at c.in_ok-next.field-0 c.in-Stops.field-0
    c.takes-test.true
    c.in-Stops.is c.in_ok-next.ensures c.nearer-found.ensures c.takes.invariant
