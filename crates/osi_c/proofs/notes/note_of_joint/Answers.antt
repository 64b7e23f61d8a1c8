use Rattle.std.proofs.Common.{◌∙◌, ap}
use Rattle.osi_side.specs.declared.directions.Direction.{Direction}
use Rattle.osi_judge.specs.Holding.{line_in}
use Rattle.osi_c.proofs.a_note_is_of_what_passed.{note_is}
use Rattle.osi_c.proofs.notes.note_of_joint.Goals as goal

pub returns : goal.returns
returns c = λ j h k.
    note_is c.args.direction c.args.joint.now j c.finding-own.result c.finding-beside.result c.offset-offset.result c.violation-by.result
    c.is_dropped.result c.is_over-is_over.result c.note_unless.result c.note_of_found.result h k c.finding-own.ensures.value
    (c.finding-beside.ensures.value ∙ ap (λ (d : Direction). (line_in d c.args.joint.now).side.finding) c.other.ensures)
    c.violation-by.ensures
    (c.offset-offset.ensures j h) (c.is_over-is_over.ensures j h) c.is_dropped.ensures c.note_of_found.ensures c.note_unless.ensures
