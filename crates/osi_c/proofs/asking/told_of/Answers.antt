use Rattle.osi_c.proofs.asking.told_of.Goals as goal

pub returns : goal.returns
returns c = record { note = c.note_of-note.result; tells = c.note_of-note.ensures; shows = c.shown.ensures }
