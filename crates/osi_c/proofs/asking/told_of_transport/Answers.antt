use Rattle.std.proofs.Common.{◌∙◌, sym}
use Rattle.osi_c.proofs.what_is_asked_of_a_judge.{shows_break, shows_rest}
use Rattle.osi_c.proofs.asking.told_of_transport.Goals as goal

pub returns-then-is_certain : goal.returns-then-is_certain
returns-then-is_certain c =
    shows_break c.args.held.now c.args.direction c.note_of-note.result c.shown.result c.note_of-note.ensures
    (sym c.is_certain.ensures ∙ c.if-is_certain.true) c.shown.ensures

pub returns : goal.returns
returns c =
    shows_rest c.args.held.now c.args.direction c.note_of-note.result c.told_of.result c.note_of-note.ensures
    (sym c.is_certain.ensures ∙ c.if-is_certain.false) c.told_of.ensures
