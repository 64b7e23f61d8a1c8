use Rattle.std.proofs.Common.{arith}
use Rattle.osi_session.proofs.tsdu.what_is_sent_is_taken_as_meant.{said_again}
use Rattle.osi_side.proofs.honest.a_call_is_explained.{AsSent}
use Rattle.osi_side.proofs.honest.an_honest_side_is_kept.{not_blamed}
use Rattle.osi_side.proofs.laws.an_honest_side_is_not_blamed.Goals as goal

-- what the laws of messages state
as_sent : (c : goal.After-an_honest_session_is_explained) → AsSent
as_sent c = grind (arith, said_again)

pub returns : goal.returns
returns c = search (arith, not_blamed, as_sent)
