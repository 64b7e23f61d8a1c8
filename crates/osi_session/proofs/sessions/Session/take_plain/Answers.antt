use Rattle.osi_session.proofs.Vocabulary.{respond_word, react, arith}
use Rattle.osi_session.proofs.moves.the_moves_in_memory.{came_plain, tries_as}
use Rattle.osi_session.proofs.sessions.Session.take_plain.Goals as goal

pub returns-in-Some-Part : goal.returns-in-Some-Part
returns-in-Some-Part c = grind (arith, tries_as, react, respond_word, came_plain)
