use Rattle.osi_spdu.proofs.Vocabulary.{known_of, group_octets, arith}
use Rattle.osi_spdu.proofs.parameters.a_group_is_counted_once.{group_within}
use Rattle.osi_spdu.proofs.writing.group_len.Goals as goal

pub members_len-requires : goal.members_len-requires
unfolding group_octets
members_len-requires c = grind (arith, known_of, group_octets, group_within)
