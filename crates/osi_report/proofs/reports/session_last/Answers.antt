use Rattle.std.proofs.Common.{arith}
use Rattle.osi_report.proofs.Vocabulary.{numbered}
use Rattle.osi_report.proofs.a_report_says_what_a_judge_holds.{if_some, joined_at, blamed_at, blamed_nowhere}
use Rattle.osi_report.proofs.each_connection_has_a_number_of_its_own.{found_blamed}
use Rattle.osi_report.proofs.reports.session_last.Goals as goal

pub returns-in-Some-Placed-clause-some : goal.returns-in-Some-Placed-clause-some
returns-in-Some-Placed-clause-some c =
    if_some c.stray_of.result c.stray_of.ensures.some (λ x g s f k d e.
    (let j = joined_at (numbered c.args.number s.course.sessions) c.in-Some-Placed.field-0
    (c.in-Some-Placed.ensures.held s k.holds k.settled.judged) in
    let heard = c.in-Some-Placed.ensures.heard k.settled in
    g s f c.args.number j.0 j.1 d e (grind (arith, j.2)) (grind (arith, heard))))

pub returns-in-Some-Placed-clause-none : goal.returns-in-Some-Placed-clause-none
returns-in-Some-Placed-clause-none c = λ s k b n.
    let o = numbered c.args.number s.course.sessions in
    let j = joined_at o c.in-Some-Placed.field-0 (c.in-Some-Placed.ensures.held s k.holds k.settled.judged) in
    c.stray_of.ensures.none j.0 (grind (arith, j.2))
    (blamed_at c.args.direction o j.0 j.1 (found_blamed s c.args.direction c.args.number k.reached k.few b)) n

pub returns-in-Some-Replaced-clause-some : goal.returns-in-Some-Replaced-clause-some
returns-in-Some-Replaced-clause-some c =
    if_some c.stray_past.result c.stray_past.ensures.some (λ x g s f k d e.
    (let j = joined_at (numbered c.args.number s.course.sessions) c.in-Some-Replaced.field-0
    (c.in-Some-Replaced.ensures.held s k.holds k.settled.judged) in
    g s f c.args.number j.0 j.1 d e (grind (arith, j.2))))

pub returns-in-Some-Replaced-clause-none : goal.returns-in-Some-Replaced-clause-none
returns-in-Some-Replaced-clause-none c = λ s k b n.
    let o = numbered c.args.number s.course.sessions in
    let j = joined_at o c.in-Some-Replaced.field-0 (c.in-Some-Replaced.ensures.held s k.holds k.settled.judged) in
    c.stray_past.ensures.none j.0 (grind (arith, j.2))
    (blamed_at c.args.direction o j.0 j.1 (found_blamed s c.args.direction c.args.number k.reached k.few b)) n

pub returns-in-None-clause-none : goal.returns-in-None-clause-none
returns-in-None-clause-none c = λ s k b n.
    grind (arith, blamed_nowhere, found_blamed s c.args.direction c.args.number k.reached k.few b)
