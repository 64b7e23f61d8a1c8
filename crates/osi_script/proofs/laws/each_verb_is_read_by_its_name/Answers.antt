use Rattle.osi_script.proofs.each_verb_is_found_by_its_name.{verb_read}
use Rattle.osi_script.proofs.laws.each_verb_is_read_by_its_name.Goals as goal

pub returns : goal.returns
returns c = verb_read
