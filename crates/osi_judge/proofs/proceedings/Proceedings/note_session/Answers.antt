use Rattle.std.proofs.Common.{arith}
use Rattle.osi_judge.proofs.no_break_was_before_the_first.{session_first}
use Rattle.osi_judge.proofs.the_first_break_is_kept.{session_told, session_kept}
use Rattle.osi_judge.proofs.proceedings.Proceedings.note_session.Goals as goal

pub returns-clause-holds : goal.returns-clause-holds
returns-clause-holds c k h = grind (arith, session_told)

pub returns-clause-kept : goal.returns-clause-kept
returns-clause-kept c f e = grind (arith, session_kept)

pub returns-clause-first : goal.returns-clause-first
returns-clause-first c s h number none others = grind (arith, session_first)
