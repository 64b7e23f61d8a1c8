use Rattle.std.proofs.Common.{arith}
use Rattle.osi_session.proofs.tsdu.what_is_sent_is_taken_as_meant.{said_again}
use Rattle.osi_side.proofs.honest.a_call_is_explained.{AsSent}
use Rattle.osi_side.proofs.honest.a_caller_is_explained.{called_explained, caller_explained}
use Rattle.osi_side.proofs.laws.an_honest_session_is_explained.Goals as goal

-- what the laws of messages state
as_sent : (c : goal.After-what_leaves_in_parts) → AsSent
as_sent c = grind (arith, said_again)

pub returns : goal.returns
returns c = record { caller = caller_explained (as_sent c); called = called_explained (as_sent c) }
