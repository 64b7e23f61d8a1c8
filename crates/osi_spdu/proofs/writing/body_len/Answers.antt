use Rattle.std.proofs.Common.{arith}
use Rattle.osi_spdu.proofs.parameters.a_group_is_counted_once.{among_at}
use Rattle.osi_spdu.proofs.writing.body_len.Goals as goal

pub parameter_len-len-requires-clause-held : goal.parameter_len-len-requires-clause-held
parameter_len-len-requires-clause-held c = grind (arith, among_at)
