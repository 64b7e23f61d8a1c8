use Rattle.std.proofs.Common.{arith}
use Rattle.osi_spdu.proofs.parameters.a_slot_is_filled.{tokens_same}
use Rattle.osi_spdu.proofs.params.tokens_alone.Goals as goal

pub returns-clause-same : goal.returns-clause-same
returns-clause-same c = grind (arith, tokens_same)

pub returns-clause-alone : goal.returns-clause-alone
returns-clause-alone c = (tokens_same c.in_ok-tokens.tokens c.alone.result c.alone.ensures).1
