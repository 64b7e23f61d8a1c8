use Rattle.osi_class.proofs.giving.all_that_may_go_is_given.{goes_whole}
use Rattle.osi_class.proofs.laws.all_go_at_once.Goals as goal

pub returns : goal.returns
returns c = goes_whole
