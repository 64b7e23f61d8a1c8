use Rattle.std.proofs.Common.{arith}
use Rattle.osi_blameless.proofs.ends.courses.what_was_said_is_explained.{explained_from_awaiting, explained_from_opening}
use Rattle.osi_blameless.proofs.ends.courses.what_was_said_is_explained.{course_said, shown_said}
use Rattle.osi_blameless.proofs.laws.ends.what_a_connection_said_is_explained.Goals as goal

pub returns-clause-called : goal.returns-clause-called
returns-clause-called c = search (arith, explained_from_awaiting, course_said)

pub returns-clause-caller : goal.returns-clause-caller
returns-clause-caller c = search (arith, explained_from_opening, course_said)

pub returns-clause-called_shows : goal.returns-clause-called_shows
returns-clause-called_shows c = search (arith, explained_from_awaiting, shown_said, course_said)

pub returns-clause-caller_shows : goal.returns-clause-caller_shows
returns-clause-caller_shows c = search (arith, explained_from_opening, shown_said, course_said)
