use Rattle.std.proofs.Common.{arith}
use Rattle.osi_transcript.proofs.a_script_is_read_line_by_line.{none_numbered}
use Rattle.osi_transcript.proofs.walks.Walk.next_line.Goals as goal

pub returns-in_default-clause-none : goal.returns-in_default-clause-none
returns-in_default-clause-none c = grind (arith, none_numbered)
