use Rattle.std.proofs.Common.{length, ap, arith}
use Rattle.osi_judge.proofs.each_connection_is_kept.{asked_so}
use Rattle.osi_judge.proofs.what_holds_of_a_result.{on_ok}
use Rattle.osi_judge.proofs.sessions.Sessions.ask.Goals as goal

pub returns-then-place-count_of-clause-ok : goal.returns-then-place-count_of-clause-ok
returns-then-place-count_of-clause-ok c = grind (arith, on_ok, asked_so)

pub ask_over-requires : goal.ask_over-requires
ask_over-requires c = let same = ap length c.deref.ensures.value in omega arith

pub returns-clause-ok : goal.returns-clause-ok
returns-clause-ok c = grind (arith, on_ok, asked_so)
