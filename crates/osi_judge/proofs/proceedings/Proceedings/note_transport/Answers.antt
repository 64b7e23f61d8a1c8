use Rattle.std.proofs.Common.{arith}
use Rattle.osi_judge.proofs.proceedings.Proceedings.note_transport.Goals as goal

pub returns-in-None-clause-holds : goal.returns-in-None-clause-holds
returns-in-None-clause-holds c k h e = grind arith

pub returns-in-None-clause-first : goal.returns-in-None-clause-first
returns-in-None-clause-first c s e = grind arith

pub returns-in-Some-clause-holds : goal.returns-in-Some-clause-holds
returns-in-Some-clause-holds c k h e = grind arith

pub returns-in-Some-clause-first : goal.returns-in-Some-clause-first
returns-in-Some-clause-first c s e = grind arith
