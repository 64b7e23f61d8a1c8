use Rattle.osi_report.proofs.Vocabulary.{arith, comes_to, stream, unjudged}
use Rattle.osi_side.specs.declared.directions.Direction.TheVariants.{Left}
use Rattle.osi_report.proofs.a_judgement_is_a_report_or_a_reason.{judges_as, all_reached}
use Rattle.osi_report.proofs.disputes.judgement_by.Goals as goal

pub returns-clause-judged : goal.returns-clause-judged
returns-clause-judged c = λ capture h k.
    judges_as (unjudged capture) (comes_to capture) c.new-lines.result.items c.push_judgement.new.text.items c.in_ok-status.status
    (grind arith)
    (c.in_ok-status.ensures.told (comes_to capture) (stream Left capture) (all_reached capture)
    (c.settle.ensures.holds (comes_to capture) h) c.in_ok-settle.ensures.settled k)
