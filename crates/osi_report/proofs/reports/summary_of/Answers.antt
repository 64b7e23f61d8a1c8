use Rattle.std.proofs.Common.{is_some}
use Rattle.osi_report.proofs.Vocabulary.{◌≡◌, ◌∙◌, ap, not, ◌&&◌, is_opened}
use Rattle.osi_report.proofs.a_report_says_what_a_judge_holds.{summary_as}
use Rattle.osi_report.proofs.reports.summary_of.Goals as goal

pub returns : goal.returns
returns c = λ j h k.
    let opened : c.is_some-is_opened.result ≡ is_opened j = c.is_some-is_opened.ensures ∙ ap is_some (c.class.ensures j h) in
    let refused = c.is_refused.ensures ∙ (λ i. c.is_closed.ensures j h i && not (opened i)) in
    summary_as j c.args.joint.now _ h k (c.in_ok-left.ensures j h) (c.in_ok-right.ensures j h) (c.reference.ensures j h)
    (c.reference-2.ensures j h) opened refused (c.is_over.ensures j h)
