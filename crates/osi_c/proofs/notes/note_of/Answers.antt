use Rattle.std.proofs.Common.{arith}
use Rattle.osi_c.proofs.notes.note_of.Goals as goal

pub returns-in-Session : goal.returns-in-Session
returns-in-Session c = grind arith

pub returns-in-Transport : goal.returns-in-Transport
returns-in-Transport c = grind arith

pub returns-in-Rest : goal.returns-in-Rest
returns-in-Rest c = grind arith
