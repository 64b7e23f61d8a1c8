use Rattle.osi_side.specs.Captures.{stream}
use Rattle.osi_side.specs.declared.directions.Direction.TheVariants.{Left}
use Rattle.osi_report.specs.Openings.{unjudged_in}
use Rattle.osi_report.proofs.a_judgement_is_a_report_or_a_reason.{judges_as}
use Rattle.osi_c.specs.Fed.{fed}
use Rattle.osi_c.proofs.what_is_asked_of_a_judge.{fed_reached}
use Rattle.osi_c.proofs.judgements.text_of.Goals as goal

pub returns : goal.returns
returns c = λ settled capture k.
    let s = fed capture in
    let left = stream Left capture in (
      c.in_ok-push_judgement.field-0,
      judges_as (unjudged_in s left) s c.new-text.result.items c.push_judgement.new.text.items
          c.in_ok-push_judgement.field-0 c.new-text.ensures.items
          (c.in_ok-push_judgement.ensures.told s left (fed_reached capture) k.holds settled k.opens),
    )
