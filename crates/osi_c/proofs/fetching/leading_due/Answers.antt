use Rattle.std.proofs.Common.{arith}
use Rattle.std.proofs.Common.{◌≡◌, ◌∙◌, sym, ap, Some}
use Rattle.osi_judge.specs.Standing.{first_in}
use Rattle.osi_c.specs.Subjects.{leading, told_by}
use Rattle.osi_c.specs.Fetching.{IsDue}
use Rattle.osi_c.specs.declared.subjects.Subject.{Subject}
use Rattle.osi_c.specs.declared.fetching.Due.{Due}
use Rattle.osi_c.proofs.what_is_fetched_of_a_judge.{no_leading, none_if_leading, both_some, some_as}
use Rattle.osi_c.proofs.fetching.leading_due.Goals as goal

pub returns-in-None-clause-none : goal.returns-in-None-clause-none
returns-in-None-clause-none c = grind (arith, no_leading)

pub returns-in-Some-clause-some : goal.returns-in-Some-clause-some
returns-in-Some-clause-some c =
    let leads = sym (c.in-Some.ensures ∙ ap leading c.first.ensures.value) in
    both_some c.due_of.result (λ (d : Due). leading (first_in c.args.held.now.judge) ≡ Some d.subject)
    (λ (d : Due). IsDue c.args.held.now (told_by c.args.held.now.told) d.subject d.note)
    (some_as c.due_of.result (λ (d : Due). d.subject ≡ c.in-Some.subject)
    (λ (d : Due). leading (first_in c.args.held.now.judge) ≡ Some d.subject)
    (λ d e. leads ∙ ap (λ (k : Subject). Some k) (sym e)) c.due_of.ensures.of_it)
    c.due_of.ensures.some

pub returns-in-Some-clause-none : goal.returns-in-Some-clause-none
returns-in-Some-clause-none c = grind (arith, none_if_leading)
