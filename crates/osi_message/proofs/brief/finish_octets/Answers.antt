use Rattle.std.proofs.Common.{arith}
use Rattle.osi_message.proofs.brief_messages_in_octets.{finish_written, none_left, none_there}
use Rattle.osi_message.proofs.brief.finish_octets.Goals as goal

pub returns-clause-written : goal.returns-clause-written
returns-clause-written c = grind (arith, none_there, none_left, finish_written)
