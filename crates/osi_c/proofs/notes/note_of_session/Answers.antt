use Rattle.std.proofs.Common.{arith}
use Rattle.osi_c.proofs.a_note_is_of_what_passed.{note_held, note_missing}
use Rattle.osi_c.proofs.notes.note_of_session.Goals as goal

pub returns-in-Some-Placed : goal.returns-in-Some-Placed
returns-in-Some-Placed c = grind (arith, note_held)

pub returns-in-Some-Replaced : goal.returns-in-Some-Replaced
returns-in-Some-Replaced c = grind (arith, note_held)

pub returns-in-None : goal.returns-in-None
returns-in-None c = search (arith, note_missing)
