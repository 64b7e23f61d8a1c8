use Rattle.std.proofs.Common.{arith}
use Rattle.osi_blameless.proofs.ends.sessions.a_history_is_a_run.{is_sent}
use Rattle.osi_blameless.proofs.ends.sessions.what_a_capture_shows_is_a_run.{shown_sent}
use Rattle.osi_blameless.proofs.laws.ends.what_a_capture_shows_is_a_run.Goals as goal

pub returns : goal.returns
returns c = grind (arith, shown_sent, is_sent)
