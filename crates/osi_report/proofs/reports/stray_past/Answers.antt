use Rattle.osi_report.proofs.Vocabulary.{refl}
use Rattle.osi_judge.specs.declared.outcomes.Outcome.TheVariants as outcome
use Rattle.osi_report.proofs.a_report_says_what_a_judge_holds.{past_or_blamed}
use Rattle.osi_report.proofs.reports.stray_past.Goals as goal

pub returns-in-Kept-clause-none : goal.returns-in-Kept-clause-none
returns-in-Kept-clause-none c = λ j h b n.
    past_or_blamed c.args.direction j (outcome.Kept c.in-Kept.field-0 c.in-Kept.field-1 c.in-Kept.field-2) refl
    (c.in-Kept.ensures.found j h) b

pub returns-in-TooMany-clause-none : goal.returns-in-TooMany-clause-none
returns-in-TooMany-clause-none c = λ j h b n. past_or_blamed c.args.direction j outcome.TooMany refl (c.in-TooMany.ensures.found j h) b
