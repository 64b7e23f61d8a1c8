use Rattle.std.proofs.Common.{arith}
use Rattle.osi_blameless.proofs.ends.sessions.a_history_is_a_run.{is_sent}
use Rattle.osi_blameless.proofs.laws.ends.what_a_session_said_is_explained.Goals as goal

pub returns-clause-called : goal.returns-clause-called
returns-clause-called c = grind (arith, is_sent)

pub returns-clause-caller : goal.returns-clause-caller
returns-clause-caller c = grind (arith, is_sent)
