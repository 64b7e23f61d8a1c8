use Rattle.osi_spdu.proofs.Vocabulary.{eq-eqb, canonical, arith}
use Rattle.osi_spdu.proofs.basics.values_of_one_octet.{octet_if_one, token_bits_again}
use Rattle.osi_spdu.proofs.tokens.TokenSet.read.Goals as goal

pub returns-in-len1-clause-value : goal.returns-in-len1-clause-value
unfolding canonical
returns-in-len1-clause-value c = grind (arith, octet_if_one, token_bits_again)

pub returns-in-len1-clause-alone : goal.returns-in-len1-clause-alone
returns-in-len1-clause-alone c = grind (arith, eq-eqb, token_bits_again)
