use Rattle.std.proofs.Common.{arith}
use Rattle.osi_session.proofs.tsdu.parts_with_calls_between.{parts_do_as_whole, octets_do_as_whole, silent_before, data_sendable}
use Rattle.osi_session.proofs.tsdu.what_is_sent_is_taken_as_meant.{said_again}
use Rattle.osi_session.proofs.laws.parts_are_the_whole.Goals as goal

pub returns-clause-words : goal.returns-clause-words
returns-clause-words c = parts_do_as_whole

pub returns-clause-octets : goal.returns-clause-octets
returns-clause-octets c = search (arith, data_sendable, octets_do_as_whole, said_again)

pub returns-clause-before : goal.returns-clause-before
returns-clause-before c = silent_before c.what_a_part_says.ensures
