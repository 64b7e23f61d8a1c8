use Rattle.std.proofs.Common.{arith}
use Rattle.osi_judge.proofs.no_break_was_before_the_first.{either_told, first_stays}
use Rattle.osi_judge.proofs.proceedings.Proceedings.note.Goals as goal

pub returns-clause-holds : goal.returns-clause-holds
returns-clause-holds c k h = grind arith

pub returns-clause-first : goal.returns-clause-first
returns-clause-first c k h none others = grind (arith, either_told)

pub returns-clause-kept : goal.returns-clause-kept
returns-clause-kept c k f h e = grind (arith, first_stays)
