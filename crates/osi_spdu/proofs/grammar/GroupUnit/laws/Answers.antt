use Rattle.std.proofs.Common.{refl}
use Rattle.osi_spdu.proofs.tsdu.a_tsdu_is_all_of_its_octets.{grammar_spelled, grammar_one}
use Rattle.osi_spdu.proofs.grammar.GroupUnit.laws.Goals as goal

pub returns-clause-is_spelled : goal.returns-clause-is_spelled
returns-clause-is_spelled c = grammar_spelled

pub returns-clause-stands_alone : goal.returns-clause-stands_alone
returns-clause-stands_alone c units = refl

pub returns-clause-one_reading : goal.returns-clause-one_reading
returns-clause-one_reading c = grammar_one
