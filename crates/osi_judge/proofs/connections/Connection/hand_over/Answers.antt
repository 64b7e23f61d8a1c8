use Rattle.std.proofs.Common.{arith}
use Rattle.osi_session.specs.Standing.{seen_calling, seen_called}
use Rattle.osi_judge.proofs.what_holds_of_a_result.{on_ok_both}
use Rattle.osi_judge.proofs.connections.Connection.hand_over.Goals as goal

pub returns-clause-holds : goal.returns-clause-holds
returns-clause-holds c j h = grind (arith, c.hand_over_both.ensures.holds seen_calling seen_called j.left j.right h.sides)

pub returns-clause-heard : goal.returns-clause-heard
returns-clause-heard c = grind (arith, on_ok_both)

pub returns-clause-free : goal.returns-clause-free
returns-clause-free c h = c.hand_over_both.ensures.free h.left h.right
