use Rattle.osi_spdu.proofs.form.values_in_memory_are_in_their_form.{group_formed}
use Rattle.osi_spdu.proofs.laws.has_written_form.Goals as goal

pub returns : goal.returns
returns c = group_formed c.args.group.now
