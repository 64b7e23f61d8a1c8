use Rattle.osi_spdu.proofs.Vocabulary.{is_group, known_of, refl}
use Rattle.osi_spdu.proofs.parameters.a_group_is_counted_once.{both_held}
use Rattle.osi_spdu.proofs.writing.GroupLengths.of.Goals as goal

pub group_len-requires-clause-group : goal.group_len-requires-clause-group
unfolding is_group
group_len-requires-clause-group c = refl

pub group_len-requires-2-clause-group : goal.group_len-requires-2-clause-group
unfolding is_group
group_len-requires-2-clause-group c = refl

pub returns-clause-value : goal.returns-clause-value
returns-clause-value c = both_held _ (known_of c.args.params.now) c.group_len.ensures c.group_len-2.ensures
