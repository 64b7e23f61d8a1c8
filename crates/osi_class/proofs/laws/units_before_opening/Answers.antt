use Rattle.osi_class.proofs.between.what_was_handed_in_comes_out.{sent_early, early_whole, early_under_way}
use Rattle.osi_class.proofs.laws.units_before_opening.Goals as goal

pub returns-clause-turns : goal.returns-clause-turns
returns-clause-turns c = sent_early

pub returns-clause-whole : goal.returns-clause-whole
returns-clause-whole c = λ left right new moves a b sends run. (early_whole left right new moves a b sends run).0

pub returns-clause-whole_back : goal.returns-clause-whole_back
returns-clause-whole_back c = λ left right new moves a b sends run. (early_whole left right new moves a b sends run).1

pub returns-clause-under_way : goal.returns-clause-under_way
returns-clause-under_way c = early_under_way
