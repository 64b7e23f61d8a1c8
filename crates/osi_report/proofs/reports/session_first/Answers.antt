use Rattle.osi_report.proofs.Vocabulary.{ℕ, Option, subst, SomeoneIs}
use Rattle.osi_report.proofs.each_connection_has_a_number_of_its_own.{nobody_blamed}
use Rattle.osi_report.proofs.reports.session_first.Goals as goal

pub returns-in-None-clause-none : goal.returns-in-None-clause-none
returns-in-None-clause-none c = λ s k b n.
    let all = s.course.sessions in
    nobody_blamed c.args.direction all (subst (λ (o : Option ℕ). SomeoneIs c.args.direction o all) c.in-None.is b)
