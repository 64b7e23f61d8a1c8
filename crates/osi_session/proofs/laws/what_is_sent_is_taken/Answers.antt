use Rattle.std.proofs.Common.{arith}
use Rattle.osi_session.proofs.sent.what_is_sent_can_be_written.{sent_sendable, words_answer, asked_sendable}
use Rattle.osi_session.proofs.tsdu.what_is_sent_is_taken_as_meant.{taken_as_meant, part_taken}
use Rattle.osi_session.proofs.laws.what_is_sent_is_taken.Goals as goal

pub returns-clause-message : goal.returns-clause-message
returns-clause-message c = λ l m h. taken_as_meant l m (c.what_is_sent_is_read.ensures.read m h) (c.what_is_sent_is_read.ensures.said m h)

pub returns-clause-part : goal.returns-clause-part
returns-clause-part c = λ l place octets. part_taken l place octets (c.what_a_part_says.ensures place octets)

pub returns-clause-called : goal.returns-clause-called
returns-clause-called c = grind (arith, sent_sendable, taken_as_meant)

pub returns-clause-replied : goal.returns-clause-replied
returns-clause-replied c = grind (arith, words_answer, taken_as_meant)

pub returns-clause-asked : goal.returns-clause-asked
returns-clause-asked c = grind (arith, asked_sendable, taken_as_meant)
