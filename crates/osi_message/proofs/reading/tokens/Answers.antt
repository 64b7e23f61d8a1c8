use Rattle.osi_message.proofs.Vocabulary.{known_of, arith, Some}
use Rattle.osi_spdu.specs.declared.codes.Code.TheVariants as code
use Rattle.osi_message.proofs.a_field_reads_back.{named_again}
use Rattle.osi_message.proofs.reading.tokens.Goals as goal

pub returns-in-Some : goal.returns-in-Some
returns-in-Some c = grind (arith, known_of, named_again)
