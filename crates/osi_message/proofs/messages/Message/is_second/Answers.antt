use Rattle.osi_message.proofs.Vocabulary.{is_second, arith}
use Rattle.osi_message.specs.declared.messages.Message.TheVariants as message
use Rattle.osi_message.proofs.messages.Message.is_second.Goals as goal

pub returns-in_default : goal.returns-in_default
unfolding is_second
returns-in_default c = grind (arith, is_second)
