use Rattle.osi_message.proofs.parts_are_written_and_read.{part_said}
use Rattle.osi_message.proofs.laws.what_a_part_says.Goals as goal

pub returns : goal.returns
returns c = part_said c.few_octets_fit.ensures c.a_written_form_reads_back.ensures.read
