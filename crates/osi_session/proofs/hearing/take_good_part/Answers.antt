use Rattle.osi_session.proofs.Vocabulary.{respond_word, arith, option_copied}
use Rattle.osi_session.proofs.tsdu.the_effect_of_a_word.{first_is, middle_is, last_is}
use Rattle.osi_session.proofs.hearing.take_good_part.Goals as goal

pub returns-in-First : goal.returns-in-First
returns-in-First c = grind (arith, option_copied, respond_word, first_is)

pub returns-in-Middle : goal.returns-in-Middle
returns-in-Middle c = grind (arith, option_copied, respond_word, middle_is)

pub returns-in-Last : goal.returns-in-Last
returns-in-Last c = grind (arith, option_copied, respond_word, last_is)
