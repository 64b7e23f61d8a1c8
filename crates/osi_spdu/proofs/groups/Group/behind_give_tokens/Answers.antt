use Rattle.osi_spdu.proofs.Vocabulary.{category_of, may_stand, is_joined, arith}
use Rattle.osi_spdu.proofs.tsdu.how_reading_goes_on.{joined_ok}
use Rattle.osi_spdu.proofs.groups.Group.behind_give_tokens.Goals as goal

pub pair-requires : goal.pair-requires
unfolding category_of may_stand
pair-requires c = grind (arith, may_stand, category_of, is_joined, joined_ok)
