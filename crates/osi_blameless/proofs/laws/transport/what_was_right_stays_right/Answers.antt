use Rattle.osi_blameless.proofs.transport.lines.what_was_right_stays_right.{known_stays, passed_stays}
use Rattle.osi_blameless.proofs.laws.transport.what_was_right_stays_right.Goals as goal

pub returns-clause-known : goal.returns-clause-known
returns-clause-known c = known_stays

pub returns-clause-passed : goal.returns-clause-passed
returns-clause-passed c = passed_stays
