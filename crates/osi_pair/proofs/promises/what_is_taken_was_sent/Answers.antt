use Rattle.osi_pair.proofs.promise.all_is_taken_at_rest as taken
use Rattle.osi_pair.proofs.promises.what_is_taken_was_sent.Goals as goal

pub returns-clause-prefix : goal.returns-clause-prefix
returns-clause-prefix c = taken.in_order c.what_is_heard_was_said.ensures

pub returns-clause-all_taken : goal.returns-clause-all_taken
returns-clause-all_taken c p steps r at held rest =
    taken.all_taken c.whatever_becomes_of_two_carriers.ensures.empty p steps at held rest c.what_is_heard_was_said.ensures r

pub returns-clause-nothing_kept : goal.returns-clause-nothing_kept
returns-clause-nothing_kept c = taken.nothing_kept c.whatever_becomes_of_two_carriers.ensures.empty
