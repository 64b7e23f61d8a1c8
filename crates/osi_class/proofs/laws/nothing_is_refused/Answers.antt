use Rattle.osi_class.proofs.between.owed_acks_keep_the_counts.{unit_is_awaited, ack_is_taken, nothing_under_way}
use Rattle.osi_class.proofs.laws.nothing_is_refused.Goals as goal

pub returns-clause-unit : goal.returns-clause-unit
returns-clause-unit c = unit_is_awaited

pub returns-clause-ack : goal.returns-clause-ack
returns-clause-ack c = ack_is_taken

pub returns-clause-all_open : goal.returns-clause-all_open
returns-clause-all_open c = nothing_under_way
