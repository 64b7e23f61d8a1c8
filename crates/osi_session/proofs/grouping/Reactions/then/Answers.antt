use Rattle.osi_session.proofs.Vocabulary.{option_copied, joined_after, word_by}
use Rattle.osi_session.proofs.tsdu.the_effect_of_a_word.{told_as}
use Rattle.osi_session.proofs.grouping.Reactions.then.Goals as goal

pub returns-then-is_none-clause-bad : goal.returns-then-is_none-clause-bad
returns-then-is_none-clause-bad c =
    told_as c.args.self.now.next (option_copied c.after.result) (joined_after c.args.self.now.joined (option_copied c.args.joined))
    (word_by c.args.word)
    c.in_ok-heard.heard c.is_bad-is_bad.result c.after.ensures c.in_ok-heard.ensures c.is_bad-is_bad.ensures

pub returns-else-is_none-clause-bad : goal.returns-else-is_none-clause-bad
returns-else-is_none-clause-bad c =
    told_as c.args.self.now.next (option_copied c.after.result) (joined_after c.args.self.now.joined (option_copied c.args.joined))
    (word_by c.args.word)
    c.in_ok-heard.heard c.is_bad-is_bad.result c.after.ensures c.in_ok-heard.ensures c.is_bad-is_bad.ensures
