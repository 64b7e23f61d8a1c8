use Rattle.std.proofs.Common.{subst}
use Rattle.osi_side.specs.declared.directions.Direction.{Direction}
use Rattle.osi_judge.specs.Outcomes.{IsOutcomeOf}
use Rattle.osi_c.proofs.a_note_is_of_what_passed.{past_note}
use Rattle.osi_c.proofs.notes.note_of_past.Goals as goal

pub returns : goal.returns
returns c = λ j h.
    past_note c.args.direction j c.outcome-own.result c.outcome-beside.result c.is_dropped_by.result c.is_over.result c.note_unless.result
    c.note_of_outcome.result (c.outcome-own.ensures.found j h)
    (subst (λ (d : Direction). IsOutcomeOf d j c.outcome-beside.result) c.other.ensures (c.outcome-beside.ensures.found j h))
    (c.is_over.ensures j h) c.is_dropped_by.ensures c.note_of_outcome.ensures c.note_unless.ensures
