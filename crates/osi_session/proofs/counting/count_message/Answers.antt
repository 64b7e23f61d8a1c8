use Rattle.osi_session.proofs.Vocabulary.{meant_by, outcome_of, ◌∙◌, option_copied, count_of}
use Rattle.osi_session.proofs.tsdu.octets_are_counted.{message_counts}
use Rattle.osi_session.proofs.counting.count_message.Goals as goal

pub returns : goal.returns
returns c = message_counts c.args.state.now c.args.joined (option_copied c.as_ref.result) (meant_by c.args.message)
    (outcome_of c.in_ok-reaction.reaction) (count_of c.of.result)
    (c.as_ref.ensures.value ∙ c.placeholder-begun.ensures) c.in_ok-reaction.ensures c.of.ensures
