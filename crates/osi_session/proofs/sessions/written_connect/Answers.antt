use Rattle.osi_session.proofs.Vocabulary.{in_one, unit_in, arith, ◌<◌, ◌∙◌, ℕ, List, length, ap, sym, subst}
use Rattle.osi_session.proofs.sent.what_is_sent_can_be_written.{asked_sendable}
use Rattle.osi_session.proofs.runs.the_invariant_in_memory.{read_again, asked_alone}
use Rattle.osi_session.proofs.sessions.written_connect.Goals as goal

pub written_message-requires : goal.written_message-requires
written_message-requires c = subst (λ (octets : List ℕ). length octets < 65000) (sym c.message.ensures.data) c.requires

pub returns-clause-octets : goal.returns-clause-octets
returns-clause-octets c = c.in_ok-sent.ensures ∙ ap in_one c.message.ensures.meaning

pub returns-clause-read : goal.returns-clause-read
returns-clause-read c = grind (arith, asked_sendable, unit_in, read_again, asked_alone)
