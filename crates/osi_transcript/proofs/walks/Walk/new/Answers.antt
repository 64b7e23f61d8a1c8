use Rattle.osi_transcript.proofs.a_script_is_read_line_by_line.{few_lines}
use Rattle.osi_transcript.proofs.walks.Walk.new.Goals as goal

pub returns-clause-small : goal.returns-clause-small
returns-clause-small c = few_lines c.args.text.now c.requires
