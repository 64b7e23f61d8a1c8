use Rattle.osi_stack.proofs.Vocabulary.{react, arith}
use Rattle.osi_stack.proofs.each_session.what_happens_beside_calls_and_tsdus.{opened_is_unseen, refused_is_quiet, broken_is_quiet}
use Rattle.osi_stack.proofs.each_session.what_happens_beside_calls_and_tsdus.{quiet_takes, takes_if}
use Rattle.osi_stack.proofs.handling.take_event.Goals as goal

pub returns-in-Opened : goal.returns-in-Opened
returns-in-Opened c = grind (arith, opened_is_unseen, takes_if, quiet_takes, react)

pub returns-in-Refused : goal.returns-in-Refused
returns-in-Refused c = grind (arith, refused_is_quiet, takes_if, quiet_takes, react)

pub returns-in-Lost : goal.returns-in-Lost
returns-in-Lost c = grind (arith, broken_is_quiet, takes_if, quiet_takes, react)
