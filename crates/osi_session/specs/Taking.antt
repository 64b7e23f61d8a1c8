-- The state of a side after it took a TSDU, as a count.
use Rattle.std.specs.Prelude.{option_map}
use Rattle.osi_session.specs.declared.standing.Taking.{Taking}
use Rattle.osi_session.specs.Standing.{Count}
use Rattle.osi_session.specs.Steps.{reply_of}

abbrev pub count_taken : Taking → Count
count_taken t = record { state = t.next.state; joined = t.next.joined; reply = option_map reply_of t.reply; closes = t.next.closed }
