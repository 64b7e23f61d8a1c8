use Rattle.osi_session.proofs.Vocabulary.{word_by, count_of}
use Rattle.osi_session.proofs.tsdu.octets_are_counted.{then_bad}
use Rattle.osi_session.proofs.counting.Counting.then.Goals as goal

pub returns-then-is_none-clause-bad : goal.returns-then-is_none-clause-bad
returns-then-is_none-clause-bad c =
    then_bad (count_of c.args.self.now) (count_of c.in_ok-counting.counting) (word_by c.args.word) c.is_bad-is_bad.result
    c.in_ok-counting.ensures c.is_bad-is_bad.ensures

pub returns-else-is_none-clause-bad : goal.returns-else-is_none-clause-bad
returns-else-is_none-clause-bad c =
    then_bad (count_of c.args.self.now) (count_of c.in_ok-counting.counting) (word_by c.args.word) c.is_bad-is_bad.result
    c.in_ok-counting.ensures c.is_bad-is_bad.ensures
