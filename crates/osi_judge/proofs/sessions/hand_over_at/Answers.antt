use Rattle.std.proofs.Common.{arith}
use Rattle.osi_judge.proofs.Vocabulary.{subst, sym, length-set, Connection, HoldsJoined}
use Rattle.osi_judge.proofs.what_holds_of_a_result.{on_ok, now_so}
use Rattle.osi_judge.proofs.each_connection_is_kept.{one_kept}
use Rattle.osi_judge.proofs.each_session_has_heard_all.{front_heard, heard_at, still_heard}
use Rattle.osi_judge.proofs.sessions.hand_over_at.Goals as goal

pub returns-clause-holds : goal.returns-clause-holds
returns-clause-holds c js h =
    one_kept c.args.live.now.items js c.args.place c.index_mut.result.now c.hand_over.new.self c.requires
    (λ j hj. c.hand_over.ensures.holds j (subst (λ (x : Connection). HoldsJoined x j) (sym c.index_mut.ensures.value) hj)) h

pub returns-clause-count : goal.returns-clause-count
returns-clause-count c = length-set c.args.live.now.items c.args.place c.hand_over.new.self

pub returns-clause-heard : goal.returns-clause-heard
returns-clause-heard c = grind (arith, on_ok, front_heard)

pub returns-clause-free : goal.returns-clause-free
returns-clause-free c h = grind (arith, heard_at, still_heard, now_so)
