use Rattle.osi_session.proofs.tsdu.the_answer_to_a_tsdu.{unit_answers, octets_answered, aborting_silent, ended_accepting}
use Rattle.osi_session.proofs.laws.what_answers_is_over.Goals as goal

pub returns : goal.returns
returns c = record { unit = unit_answers; octets = octets_answered; aborting = aborting_silent; ended = ended_accepting }
