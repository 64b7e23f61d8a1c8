use Rattle.osi_class.proofs.between.no_tsdu_becomes_too_long.{not_too_long, stays_short}
use Rattle.osi_class.proofs.laws.no_tsdu_is_too_long.Goals as goal

pub returns-clause-kept : goal.returns-clause-kept
returns-clause-kept c = stays_short

pub returns-clause-part : goal.returns-clause-part
returns-clause-part c = not_too_long
