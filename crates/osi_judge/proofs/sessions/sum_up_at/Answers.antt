use Rattle.osi_judge.proofs.Vocabulary.{subst, sym, length-set, Connection, HoldsJoined}
use Rattle.osi_judge.proofs.what_holds_of_a_result.{if_ok}
use Rattle.osi_judge.proofs.each_connection_is_kept.{one_kept, past_at}
use Rattle.osi_judge.proofs.sessions.sum_up_at.Goals as goal

pub returns-clause-holds : goal.returns-clause-holds
returns-clause-holds c js h =
    one_kept c.args.live.now.items js c.args.place c.index_mut.result.now c.sum_up.new.self c.requires
    (λ j hj. c.sum_up.ensures.holds j (subst (λ (x : Connection). HoldsJoined x j) (sym c.index_mut.ensures.value) hj)) h

pub returns-clause-count : goal.returns-clause-count
returns-clause-count c = length-set c.args.live.now.items c.args.place c.sum_up.new.self

pub returns-clause-past : goal.returns-clause-past
returns-clause-past c =
    if_ok c.sum_up.result c.sum_up.ensures.past (λ p k js h.
    past_at c.args.live.now.items js c.args.place c.index_mut.result.now p c.requires
    (λ j hj. k j (subst (λ (x : Connection). HoldsJoined x j) (sym c.index_mut.ensures.value) hj)) h)
