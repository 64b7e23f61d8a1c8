use Rattle.osi_class.proofs.between.tsdus_come_in_order as ways
use Rattle.osi_class.proofs.laws.what_is_between.Goals as goal

pub returns-clause-kept : goal.returns-clause-kept
returns-clause-kept c = ways.turns_keep

pub returns-clause-begins : goal.returns-clause-begins
returns-clause-begins c = ways.begins

pub returns-clause-whole : goal.returns-clause-whole
returns-clause-whole c = ways.whole_kept

pub returns-clause-stays_whole : goal.returns-clause-stays_whole
returns-clause-stays_whole c = ways.stays_whole

pub returns-clause-other_way : goal.returns-clause-other_way
returns-clause-other_way c = ways.other_way
