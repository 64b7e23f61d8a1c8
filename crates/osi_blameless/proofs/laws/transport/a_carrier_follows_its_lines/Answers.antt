use Rattle.osi_blameless.proofs.transport.lines.a_carrier_follows_lines.{follows_closed, follows_closed_one, follows_open, follows_sent}
use Rattle.osi_blameless.proofs.transport.lines.calls_of_a_line_join.{follows_then, follows_together}
use Rattle.osi_blameless.proofs.laws.transport.a_carrier_follows_its_lines.Goals as goal

pub returns-clause-open : goal.returns-clause-open
returns-clause-open c = λ unit s r peer link orderly two lasts here e. follows_open unit s r peer link orderly.rise two lasts here e

pub returns-clause-closing : goal.returns-clause-closing
returns-clause-closing c = λ unit s r peer orderly two lasts here e. follows_closed_one unit s r peer orderly.rise two lasts here e

pub returns-clause-sent : goal.returns-clause-sent
returns-clause-sent c = follows_sent

pub returns-clause-closed : goal.returns-clause-closed
returns-clause-closed c = follows_closed

pub returns-clause-together : goal.returns-clause-together
returns-clause-together c = follows_together

pub returns-clause-joined : goal.returns-clause-joined
returns-clause-joined c = follows_then
