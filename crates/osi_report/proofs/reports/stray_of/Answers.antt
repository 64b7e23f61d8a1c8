use Rattle.std.proofs.Common.{arith}
use Rattle.osi_report.proofs.Vocabulary.{refl}
use Rattle.osi_side.specs.declared.findings.Finding.TheVariants as finding
use Rattle.osi_report.specs.declared.reports.Last.TheVariants as ending
use Rattle.osi_judge.specs.declared.outcomes.Outcome.TheVariants as what
use Rattle.osi_report.proofs.a_report_says_what_a_judge_holds.{stray_held, kept_or_blamed}
use Rattle.osi_judge.proofs.what_is_told_of_a_connection.{broke_says, left_says}
use Rattle.osi_report.proofs.reports.stray_of.Goals as goal

pub returns-in-Broke-clause-some : goal.returns-in-Broke-clause-some
returns-in-Broke-clause-some c = λ s f number j e w n h k.
    stray_held s c.args.direction c.args.joint.now (what.Broke c.offset-offset.result c.violation-by.result)
    (ending.Broke c.args.direction c.offset-offset.result c.violation-by.result) f number j e w n h k
    (grind (arith, broke_says)) refl

pub returns-in-Left-clause-some : goal.returns-in-Left-clause-some
returns-in-Left-clause-some c = λ s f number j e w n h k.
    stray_held s c.args.direction c.args.joint.now (what.Left c.offset-offset.result c.violation-by.result)
    (ending.Left c.args.direction c.offset-offset.result c.violation-by.result) f number j e w n h k
    (grind (arith, left_says)) refl

pub returns-in-Kept-clause-none : goal.returns-in-Kept-clause-none
returns-in-Kept-clause-none c = λ j h b n.
    kept_or_blamed c.args.direction c.args.joint.now j finding.Kept c.in-Kept.ensures.value refl h b

pub returns-in-TooMany-clause-none : goal.returns-in-TooMany-clause-none
returns-in-TooMany-clause-none c = λ j h b n.
    kept_or_blamed c.args.direction c.args.joint.now j finding.TooMany c.in-TooMany.ensures.value refl h b
